-- Room for what is seen of a page's elements and of its documents' viewports.
use Rattle.std.specs.Prelude.{ℕ, ◌<◌}
use Rattle.clip_chain.specs.Worlds.{element_spot, view_spot}
use Rattle.kept_clips.specs.Looked.{MayBeSeen}
use Rattle.kept_findings.specs.Held.{HeldFindings}

-- each of so many elements, and the viewport of each of so many documents, may be looked at
pub record HaveRoom (elements documents : ℕ) (it : HeldFindings) : Type 0 where
  pub nodes : (n : ℕ) → n < elements → MayBeSeen it.seen it.clips (element_spot n)
  pub views : (d : ℕ) → d < documents → MayBeSeen it.seen it.clips (view_spot d)
