-- By the place that is kept for the number.
use Rattle.std.proofs.Common.{◌≡◌, Option, Some, ap, sym, ◌∙◌, filter, option_map, slice_get}
use Rattle.std.specs.Borrow.{Bor}
use Rattle.script_model.specs.Syntax.{Item as ItemModel, Script}
use Rattle.script_syntax.proofs.Handlers.{at_number, found_at, handler_named, none_named, not_found, other_is_none}
use Rattle.script_syntax.specs.Seen.{handler_item, handler_of, is_handler, item_of}
use Rattle.script_syntax.specs.declared.commands.Handler.{Handler}
use Rattle.script_syntax.specs.declared.commands.Item.{Item}
use Rattle.script_syntax.proofs.script.Script.handler.Goals as goal

abbrev item_in : Option (Bor Item) → Option ItemModel
item_in found = option_map (λ (x : Bor Item). item_of x.now) found

pub returns-in_err-place-clause-item : goal.returns-in_err-place-clause-item
returns-in_err-place-clause-item c =
    ap (option_map (λ (handler : Bor Handler). handler_item handler.now)) c.from_residual.ensures
    ∙ not_found _ _ _ _ _ c.args.number _ c.self.invariant.2 (ap (λ (script : Script). script.items) c.self.view_is) c.deref.ensures.value c.get.ensures.lookup.3 c.in_err-place.was

pub returns-in_err-place-clause-value : goal.returns-in_err-place-clause-value
returns-in_err-place-clause-value c =
    ap (option_map (λ (handler : Bor Handler). handler_of handler.now)) c.from_residual.ensures
    ∙ none_named _ c.args.number
    (not_found _ _ _ _ _ c.args.number _ c.self.invariant.2 (ap (λ (script : Script). script.items) c.self.view_is) c.deref.ensures.value c.get.ensures.lookup.3 c.in_err-place.was)

pub returns-in_err-handler-clause-item : goal.returns-in_err-handler-clause-item
returns-in_err-handler-clause-item c =
    ap (option_map (λ (handler : Bor Handler). handler_item handler.now)) c.from_residual-in_err-handler.ensures
    ∙ ap item_in (sym c.in_err-handler.was)
    ∙ found_at _ _ _ _ _ c.args.number _ c.self.invariant.2 (ap (λ (script : Script). script.items) c.self.view_is) c.deref.ensures.value c.get.ensures.lookup.3
    _ c.in_ok-place.place c.get-2.result c.in_ok-place.was c.deref-2.ensures.value c.get-2.ensures.lookup.3

pub returns-in_err-handler-clause-value : goal.returns-in_err-handler-clause-value
returns-in_err-handler-clause-value c =
    ap (option_map (λ (handler : Bor Handler). handler_of handler.now)) c.from_residual-in_err-handler.ensures
    ∙ none_named _ c.args.number
    (ap item_in (sym c.in_err-handler.was)
    ∙ found_at _ _ _ _ _ c.args.number _ c.self.invariant.2 (ap (λ (script : Script). script.items) c.self.view_is) c.deref.ensures.value c.get.ensures.lookup.3
    _ c.in_ok-place.place c.get-2.result c.in_ok-place.was c.deref-2.ensures.value c.get-2.ensures.lookup.3)

pub returns-in-Handler-clause-item : goal.returns-in-Handler-clause-item
returns-in-Handler-clause-item c =
    ap (λ (item : Item). Some (item_of item)) (sym c.in-Handler.is)
    ∙ ap item_in (sym c.in_ok-handler.was)
    ∙ found_at _ _ _ _ _ c.args.number _ c.self.invariant.2 (ap (λ (script : Script). script.items) c.self.view_is) c.deref.ensures.value c.get.ensures.lookup.3
    _ c.in_ok-place.place c.get-2.result c.in_ok-place.was c.deref-2.ensures.value c.get-2.ensures.lookup.3

pub returns-in-Handler-clause-value : goal.returns-in-Handler-clause-value
returns-in-Handler-clause-value c = handler_named _ c.args.number c.in-Handler.handler (returns-in-Handler-clause-item c)

-- no other item stands there
pub returns-in_default : goal.returns-in_default
returns-in_default c =
    let at : Some (item_of c.in_ok-handler.field-0.now) ≡ slice_get (filter is_handler c.args.self.now.items) c.args.number =
    ap item_in (sym c.in_ok-handler.was)
    ∙ found_at _ _ _ _ _ c.args.number _ c.self.invariant.2 (ap (λ (script : Script). script.items) c.self.view_is) c.deref.ensures.value c.get.ensures.lookup.3
    _ c.in_ok-place.place c.get-2.result c.in_ok-place.was c.deref-2.ensures.value c.get-2.ensures.lookup.3 in
    let handler = at_number c.args.self.now.items c.args.number _ at in
    let none = other_is_none c.in_ok-handler.field-0.now c.in_default.not-Handler in
    absurd cc
