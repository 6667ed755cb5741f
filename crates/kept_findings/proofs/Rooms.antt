-- Room for what is seen of elements and documents.
use Rattle.std.proofs.Common.{◌≡◌, ℕ, ◌+◌, ◌<◌, refl, sym, subst, inl, inr, arith}
use Rattle.std.proofs.lemmas.Bool.{cases_lt}
use Rattle.element_tree.specs.declared.container.Container.{Container}
use Rattle.clip_chain.specs.Scenes.{Scene}
use Rattle.clip_chain.specs.Worlds.{element_spot, view_spot}
use Rattle.kept_clips.specs.Touches.{IsAdded}
use Rattle.kept_clips.specs.Seen.{HasRoom}
use Rattle.kept_clips.specs.Looked.{Looked, MayBeSeen}
use Rattle.kept_clips.proofs.Looking.{may_after}
use Rattle.kept_findings.specs.Held.{HeldFindings, with_findings, without_findings, with_expired, IsRoomier}
use Rattle.kept_findings.specs.Rooms.{HaveRoom}

pub room_none : (it : HeldFindings) → HaveRoom 0 0 it
room_none it = record { nodes = λ n below. absurd (omega (arith, below)); views = λ d below. absurd (omega (arith, below)) }

module _ (elements documents : ℕ) where
  pub room_by : (before now : HeldFindings) → ((spot : Container) → MayBeSeen before.seen before.clips spot → MayBeSeen now.seen now.clips spot) → HaveRoom elements documents before → HaveRoom elements documents now
  room_by before now each room = record {
    nodes = λ n below. each (element_spot n) (room.nodes n below);
    views = λ d below. each (view_spot d) (room.views d below);
  }

  pub room_roomier : (before now : HeldFindings) → IsRoomier before now → HaveRoom elements documents before → HaveRoom elements documents now
  room_roomier before now roomier = room_by before now roomier.room

  pub room_looked : (scene : Scene) (before now : HeldFindings) → Looked scene before.seen now.seen before.clips now.clips → HaveRoom elements documents before → HaveRoom elements documents now
  room_looked scene before now looked = room_by before now (λ spot. may_after scene before.seen now.seen before.clips now.clips spot looked)

  pub room_same : (before now : HeldFindings) → now.seen ≡ before.seen → now.clips.touches ≡ before.clips.touches → HaveRoom elements documents before → HaveRoom elements documents now
  room_same before now seen touches = room_by before now (λ spot may. record {
    room = subst (λ s. HasRoom s spot) (sym seen) may.room;
    added = subst (λ t. IsAdded t spot) (sym touches) may.added;
  })

  pub room_registered : (serial : ℕ) (root target : Container) (it : HeldFindings) → HaveRoom elements documents it → HaveRoom elements documents (with_findings serial root target it)
  room_registered serial root target it = room_same it (with_findings serial root target it) refl refl

  pub room_forgotten : (serial : ℕ) (it : HeldFindings) → HaveRoom elements documents it → HaveRoom elements documents (without_findings serial it)
  room_forgotten serial it = room_same it (without_findings serial it) refl refl

  pub room_expired : (serial : ℕ) (it : HeldFindings) → HaveRoom elements documents it → HaveRoom elements documents (with_expired serial it)
  room_expired serial it = room_same it (with_expired serial it) refl refl

  -- one more

  one_more : (P : ℕ → Type 0) (count : ℕ) → ((n : ℕ) → n < count → P n) → P count → (n : ℕ) → n < count + 1 → P n
  one_more P count all last n below = elim (cases_lt n count) [
    | inl h ↦ all n h
    | inr h ↦ subst P (let same : count ≡ n = omega arith in same) last
  ]

  pub room_element : (it : HeldFindings) → MayBeSeen it.seen it.clips (element_spot elements) → HaveRoom elements documents it → HaveRoom (elements + 1) documents it
  room_element it may room = record { nodes = one_more (λ n. MayBeSeen it.seen it.clips (element_spot n)) elements room.nodes may; views = room.views }

  pub room_document : (it : HeldFindings) → MayBeSeen it.seen it.clips (view_spot documents) → HaveRoom elements documents it → HaveRoom elements (documents + 1) it
  room_document it may room = record { nodes = room.nodes; views = one_more (λ d. MayBeSeen it.seen it.clips (view_spot d)) documents room.views may }
