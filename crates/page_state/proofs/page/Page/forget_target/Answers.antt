-- A registration is taken out with what is kept of it.
use Rattle.std.proofs.Common.{◌≡◌, ◌∙◌, ◌<◌, None, option_map, length, rules, ap, sym, subst}
use Rattle.page_model.specs.World.{IntersectionObservers}
use Rattle.page_model.specs.IntersectionObserving.{without_registration}
use Rattle.intersection_observer.specs.declared.registration.RegistrationId.{RegistrationId}
use Rattle.intersection_observer.specs.Places.{IsStanding}
use Rattle.intersection_observer.specs.Serials.{registrations_at}
use Rattle.intersection_observer.specs.Watchers.{HeldWatchers, serial_of}
use Rattle.intersection_update.specs.Watching.{AreWatchers}
use Rattle.intersection_update.proofs.Watching.{kept_unregistered}
use Rattle.kept_findings.specs.Registered.{AreRegistered}
use Rattle.kept_findings.specs.Rooms.{HaveRoom}
use Rattle.kept_findings.proofs.Rooms.{room_forgotten}
use Rattle.page_state.specs.Findings.{KeepsFindings}
use Rattle.page_state.specs.Views.{PageView}
use Rattle.page_state.specs.Whole.{IsPage}
use Rattle.page_state.proofs.Findings.{none_without, pair_there, forgotten, forgotten_keeps, forgotten_fewer}
use Rattle.page_state.proofs.page.Page.forget_target.Goals as goal

pub invariant_of-self : goal.invariant_of-self
invariant_of-self c =
    let watchers = c.self.inside.watchers in
    let none : serial_of c.args.target.0 (registrations_at watchers.part c.args.watcher.0) ≡ None =
    sym c.unobserve.ensures.answer ∙ ap (option_map (λ (it : RegistrationId). it.0)) c.in_default.is in
    let same : c.unobserve.new.self ≡ watchers =
    c.unobserve.ensures.unobserved ∙ ap (λ (part : IntersectionObservers). record watchers { part = part }) (none_without (watchers.part) c.args.watcher.0 c.args.target.0 none) in
    subst (λ (it : HeldWatchers). IsPage (record (c.self.inside) { watchers = it })) (sym same) c.self.invariant

pub returns-in_default-clause-fewer : goal.returns-in_default-clause-fewer
returns-in_default-clause-fewer c =
    let watchers = c.self.inside.watchers in
    let none : serial_of c.args.target.0 (registrations_at watchers.part c.args.watcher.0) ≡ None =
    sym c.unobserve.ensures.answer ∙ ap (option_map (λ (it : RegistrationId). it.0)) c.in_default.is in
    λ serial stands.
    subst (λ (v : PageView). IsStanding serial v.world.intersection_observers) c.self.view_is
    (subst (IsStanding serial) (ap (λ (it : HeldWatchers). it.part) c.unobserve.ensures.unobserved ∙ none_without (watchers.part) c.args.watcher.0 c.args.target.0 none) stands)

pub forget-requires : goal.forget-requires
forget-requires c =
    let there : c.args.watcher.0 < length c.self.inside.watchers.part.made = subst (λ (v : PageView). c.args.watcher.0 < length v.world.intersection_observers.made) (sym c.self.view_is) c.requires in
    pair_there c.self.inside.watchers.part c.self.inside.scroll_margins.items c.args.watcher.0 c.args.target.0 c.self.inside.findings c.registrations.ensures.serials there c.self.invariant.registered c.in-Some.taken.0
    (sym c.unobserve.ensures.answer ∙ ap (option_map (λ (it : RegistrationId). it.0)) c.in-Some.is)

pub invariant_of-self-2 : goal.invariant_of-self-2
invariant_of-self-2 c =
    let elements = length c.self.inside.laid.elements.tree.elements in
    let there : c.args.watcher.0 < length c.self.inside.watchers.part.made = subst (λ (v : PageView). c.args.watcher.0 < length v.world.intersection_observers.made) (sym c.self.view_is) c.requires in
    let watched : AreWatchers elements c.unobserve.new.self.part.made =
    subst (λ (it : HeldWatchers). AreWatchers elements it.part.made) (sym c.unobserve.ensures.unobserved)
    (kept_unregistered elements c.args.watcher.0 c.args.target.0 c.self.inside.watchers.part c.self.invariant.watched) in
    let registered : AreRegistered c.unobserve.new.self.part c.self.inside.scroll_margins.items c.forget.new.self =
    subst (λ (it : HeldWatchers). AreRegistered it.part c.self.inside.scroll_margins.items c.forget.new.self) (sym c.unobserve.ensures.unobserved)
    (subst (AreRegistered (without_registration c.args.watcher.0 c.args.target.0 (c.self.inside.watchers.part)) c.self.inside.scroll_margins.items) (sym c.forget.ensures)
    (forgotten c.self.inside.watchers.part c.self.inside.scroll_margins.items c.args.watcher.0 c.args.target.0 c.self.inside.findings c.registrations.ensures.serials there c.self.invariant.registered c.in-Some.taken.0
    (sym c.unobserve.ensures.answer ∙ ap (option_map (λ (it : RegistrationId). it.0)) c.in-Some.is))) in
    let room : HaveRoom elements (length c.self.inside.laid.elements.tree.documents) c.forget.new.self =
    subst (HaveRoom elements (length c.self.inside.laid.elements.tree.documents)) (sym c.forget.ensures)
    (room_forgotten elements (length c.self.inside.laid.elements.tree.documents) c.in-Some.taken.0 c.self.inside.findings c.self.invariant.room) in
    search rules

pub returns-clause-findings : goal.returns-clause-findings
returns-clause-findings c =
    let there : c.args.watcher.0 < length c.self.inside.watchers.part.made = subst (λ (v : PageView). c.args.watcher.0 < length v.world.intersection_observers.made) (sym c.self.view_is) c.requires in
    subst (λ (v : PageView). KeepsFindings v.world.intersection_observers c.unobserve.new.self.part v.found c.forget.new.self) c.self.view_is
    (subst (λ (it : HeldWatchers). KeepsFindings c.self.inside.watchers.part it.part c.self.inside.findings c.forget.new.self) (sym c.unobserve.ensures.unobserved)
    (subst (KeepsFindings c.self.inside.watchers.part (without_registration c.args.watcher.0 c.args.target.0 (c.self.inside.watchers.part)) c.self.inside.findings) (sym c.forget.ensures)
    (forgotten_keeps c.self.inside.watchers.part c.self.inside.scroll_margins.items c.args.watcher.0 c.args.target.0 c.self.inside.findings c.registrations.ensures.serials there c.self.invariant.registered c.in-Some.taken.0
    (sym c.unobserve.ensures.answer ∙ ap (option_map (λ (it : RegistrationId). it.0)) c.in-Some.is))))

pub returns-clause-fewer : goal.returns-clause-fewer
returns-clause-fewer c =
    let there : c.args.watcher.0 < length c.self.inside.watchers.part.made = subst (λ (v : PageView). c.args.watcher.0 < length v.world.intersection_observers.made) (sym c.self.view_is) c.requires in
    λ serial stands.
    subst (λ (v : PageView). IsStanding serial v.world.intersection_observers) c.self.view_is
    (forgotten_fewer c.self.inside.watchers.part c.self.inside.scroll_margins.items c.args.watcher.0 c.args.target.0 c.self.inside.findings c.registrations.ensures.serials there c.self.invariant.registered c.in-Some.taken.0
    (sym c.unobserve.ensures.answer ∙ ap (option_map (λ (it : RegistrationId). it.0)) c.in-Some.is)
    serial (subst (λ (it : HeldWatchers). IsStanding serial it.part) c.unobserve.ensures.unobserved stands))
