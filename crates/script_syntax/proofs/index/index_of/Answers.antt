use Rattle.std.proofs.lemmas.List.{length-map}
use Rattle.std.proofs.Common.{◌+◌, ◌≤◌, ℕ, List, map, ap, refl, sym, subst}
use Rattle.std.specs.Prelude.{bytes_eq}
use Rattle.indexmap.specs.IndexMap.{get}
use Rattle.std.specs.Map.{lookup}
use Rattle.script_syntax.specs.Indexes.{IndexedTo}
use Rattle.script_syntax.specs.Seen.{item_of}
use Rattle.script_syntax.specs.declared.index.Index.{Index}
use Rattle.script_syntax.proofs.Handlers.{none_noted, other_passed, handler_passed, all_noted, other_is_none, item_at_place}
use Rattle.script_syntax.proofs.index.index_of.Goals as goal
use Rattle.script_syntax.proofs.index.index_of.Goals.{in-Handler+in_ok-note, in_default}

pub loop-place-init : goal.loop-place-init
loop-place-init c =
    subst (λ (places : List ℕ). IndexedTo (map item_of c.args.items.now) 0 places (get bytes_eq c.new-2.result)) (sym c.new.ensures.items)
    (none_noted _ _ (λ (name : List ℕ). ap (lookup (bytes_eq name)) c.new-2.ensures.empty))

pub loop-place-preserved : goal.loop-place-preserved
loop-place-preserved c =
    let items = c.args.items.now in
    let place = c.loop-place.place in
    let old = c.loop-place.index in
    let P : Index → Type 0 = λ index. IndexedTo (map item_of items) (place + 1) index.places.items (get bytes_eq index.numbers) in
    elim c.match-item.branch [
      | in-Handler+in_ok-note w ↦
          subst P (sym w.index-is)
          (handler_passed _ _ _ _ _ _ _ _ _ _
          (item_at_place items place c.index-items-place.result _ c.loop-place-test.true c.index-items-place.is w.in-Handler.is)
          c.loop-place.invariant w.in_ok-note.ensures)
      | in_default w ↦
          subst P (sym w.index-is)
          (other_passed _ _ _ _ _
          (item_at_place items place c.index-items-place.result _ c.loop-place-test.true c.index-items-place.is refl)
          (other_is_none _ w.in_default.not-Handler) c.loop-place.invariant)
    ]

pub returns : goal.returns
returns c = all_noted _ _ _ c.loop-place.place (subst (λ (n : ℕ). n ≤ c.loop-place.place) (sym (length-map c.args.items.now item_of)) c.loop-place-test.false) c.loop-place.invariant
