-- Documents that are as their last update of intersections left them. That this is noted, so that a further update has nothing to
-- do, is this project's own.
use Rattle.std.specs.Prelude.{◌≡◌, ℕ, Bool, true, false, List, replicate, slice_set}
use Rattle.script_model.specs.Margins.{Margins}
use Rattle.page_model.specs.World.{IntersectionObservers}
use Rattle.page_model.specs.Shown.{Shown}
use Rattle.page_boxes.specs.LaidOut.{is_marked}
use Rattle.kept_findings.specs.Held.{HeldFindings}
use Rattle.intersection_update.specs.Updating.{updated}
use Rattle.page_state.specs.Findings.{AreUpdated}

-- an update of the document, at any time, changes no observer, and what is kept is what it would leave
pub record IsQuiet (shown : Shown) (margins : List Margins) (document : ℕ) (it : IntersectionObservers) (found : HeldFindings) : Type 0 where
  pub same : (time : ℕ) → updated shown margins shown.tree document time it ≡ it
  pub updated : AreUpdated shown margins document it found

-- each document that is marked is so
pub record AreQuiet (marks : List Bool) (shown : Shown) (margins : List Margins) (it : IntersectionObservers) (found : HeldFindings) : Type 0 where
  pub each : (document : ℕ) → is_marked marks document ≡ true → IsQuiet shown margins document it found

-- none is marked, so that this holds whatever is changed
abbrev pub NoneSettled : List Bool → Type 0
NoneSettled marks = (shown : Shown) (margins : List Margins) (it : IntersectionObservers) (found : HeldFindings) → AreQuiet marks shown margins it found

-- the marks after an update of a document: it is marked if the update ended well; otherwise none is
abbrev pub noted : ℕ → Bool → List Bool → List Bool
noted document true marks = slice_set marks document true
noted document false marks = replicate 64 false
