-- An intersection observer is made with its name and its scroll margins.
use Rattle.std.proofs.Common.{◌≡◌, ◌++◌, ◌∷◌, [], ℕ, ℤ, List, rules, ap, subst, ◌∙◌}
use Rattle.text_io.specs.declared.kinds.ThrowKind.TheVariants.{SyntaxError}
use Rattle.script_model.specs.Margins.{Margins}
use Rattle.script_model.specs.MarginText.{margins_of}
use Rattle.script_model.specs.Scripts.{handlers_in}
use Rattle.script_syntax.specs.Seen.{making_of}
use Rattle.page_model.specs.World.{IntersectionObserverThing, Name}
use Rattle.page_model.specs.Callbacks.{handler_names}
use Rattle.page_model.specs.Steps.{Did, required}
use Rattle.intersection_observer.specs.Seen.{seen_root}
use Rattle.page_names.specs.Things.{present_of}
use Rattle.page_state.specs.Watchers.{new_thresholds}
use Rattle.page_state.proofs.Inside.{seeing_page}
use Rattle.page_state.proofs.Making.{made_page, unmade_page}
use Rattle.page_state.proofs.page.Page.make_watcher.Goals as goal

pub invariant_of-self-2 : goal.invariant_of-self-2
invariant_of-self-2 c =
    seeing_page c.self.inside c.insert.new.self c.make.new.self c.push_reserved.new.self c.clear.new.self c.args.making.now.name c.in_ok-document.document.0 c.in-Ok.watcher.0 c.in_ok-handler.handler (seen_root c.in_ok-root.root)
    c.in_ok-margins.margins c.in_ok-scroll_margins.scroll_margins c.in_ok-thresholds.thresholds c.clear.ensures c.self.invariant
    (c.in_ok-insert.ensures.given ∙ ap (λ (list : List Name). list ++ record { text = c.args.making.now.name; thing = IntersectionObserverThing c.in-Ok.watcher.0 } ∷ []) c.in_ok-reserve.ensures.same)
    c.in-Ok.ensures.watcher c.in-Ok.ensures.made
    (c.push_reserved.ensures.items ∙ ap (λ (list : List Margins). list ++ c.in_ok-scroll_margins.scroll_margins ∷ []) c.reserve-2.ensures.items)

pub returns-clause-done : goal.returns-clause-done
returns-clause-done c =
    made_page c.self.inside c.args.self.now c.self.view_is c.self.invariant.margins (making_of c.args.making.now) c.in_ok-document.document.0 c.in_ok-handler.handler (seen_root c.in_ok-root.root)
    c.in_ok-margins.margins c.in_ok-scroll_margins.scroll_margins c.in_ok-thresholds.thresholds
    (handler_names (handlers_in c.args.script.now.items)) (present_of c.args.subject)
    c.in_ok-check_free.ensures.answer c.in_ok-document.ensures.answer c.in_ok-handler.ensures c.in_ok-root.ensures
    (subst (λ (text : List ℕ). required SyntaxError (margins_of text) ≡ Did c.in_ok-margins.margins) c.as_slice.ensures c.in_ok-margins.ensures) c.in_ok-scroll_margins.ensures
    (subst (λ (values : List ℤ). new_thresholds c.args.self.now.world.version values c.args.self.now.world.intersection_observers ≡ Did c.in_ok-thresholds.thresholds) c.as_slice-2.ensures c.in_ok-thresholds.ensures)
    c.insert.new.self c.make.new.self c.push_reserved.new.self c.in-Ok.watcher.0
    (c.in_ok-insert.ensures.given ∙ ap (λ (list : List Name). list ++ record { text = c.args.making.now.name; thing = IntersectionObserverThing c.in-Ok.watcher.0 } ∷ []) c.in_ok-reserve.ensures.same)
    c.in-Ok.ensures.watcher c.in-Ok.ensures.made
    (c.push_reserved.ensures.items ∙ ap (λ (list : List Margins). list ++ c.in_ok-scroll_margins.scroll_margins ∷ []) c.reserve-2.ensures.items)

pub returns-in_err-reserve-2-clause-done : goal.returns-in_err-reserve-2-clause-done
returns-in_err-reserve-2-clause-done c =
    unmade_page c.self.inside c.args.self.now c.self.view_is c.self.invariant.margins (making_of c.args.making.now) c.in_ok-document.document.0 c.in_ok-handler.handler (seen_root c.in_ok-root.root)
    c.in_ok-margins.margins c.in_ok-scroll_margins.scroll_margins c.in_ok-thresholds.thresholds
    (handler_names (handlers_in c.args.script.now.items)) (present_of c.args.subject)
    c.in_ok-check_free.ensures.answer c.in_ok-document.ensures.answer c.in_ok-handler.ensures c.in_ok-root.ensures
    (subst (λ (text : List ℕ). required SyntaxError (margins_of text) ≡ Did c.in_ok-margins.margins) c.as_slice.ensures c.in_ok-margins.ensures) c.in_ok-scroll_margins.ensures
    (subst (λ (values : List ℤ). new_thresholds c.args.self.now.world.version values c.args.self.now.world.intersection_observers ≡ Did c.in_ok-thresholds.thresholds) c.as_slice-2.ensures c.in_ok-thresholds.ensures)
    c.reserve.new.self c.reserve-2.new.self c.in_ok-reserve.ensures.same c.reserve-2.ensures.items c.from_residual-in_err-reserve-2.result (search rules)
