-- A target is observed, once a pair is kept for it.
use Rattle.std.proofs.Common.{◌≡◌, ◌∙◌, ◌<◌, length, rules, ap, sym, subst}
use Rattle.clip_chain.specs.Worlds.{element_spot, spot_of_root}
use Rattle.intersection_observer.specs.Seen.{seen_root}
use Rattle.intersection_observer.specs.Watchers.{HeldWatchers}
use Rattle.intersection_update.specs.Watching.{AreWatchers}
use Rattle.kept_findings.specs.Held.{HeldFindings}
use Rattle.kept_findings.specs.Registered.{AreRegistered}
use Rattle.kept_findings.specs.Rooms.{HaveRoom}
use Rattle.kept_findings.proofs.Rooms.{room_registered}
use Rattle.page_state.specs.Findings.{KeepsFindings}
use Rattle.page_state.specs.Views.{PageView}
use Rattle.page_state.specs.Whole.{IsPage}
use Rattle.page_state.proofs.Inside.{unsettled}
use Rattle.page_state.proofs.Findings.{registers_some, pair_put, registered_keeps, registered_back, registered_one, same_findings}
use Rattle.page_state.proofs.Watched.{observed_so}
use Rattle.page_state.proofs.page.Page.register.Goals as goal

pub forget-requires : goal.forget-requires
forget-requires c =
    pair_put c.in-Ok-Some.registration.0 (spot_of_root (seen_root c.root_of-root.result)) (element_spot c.in_ok-node.node.0) c.self.inside.findings c.register.new.self c.in_ok-register.ensures.registered

pub invariant_of-self-in-Err-observe : goal.invariant_of-self-in-Err-observe
invariant_of-self-in-Err-observe c =
    let back : c.forget.new.self ≡ c.self.inside.findings =
    registered_back c.self.inside.watchers c.self.inside.scroll_margins.items c.in_ok-watcher.watcher.0 c.in_ok-node.node.0 c.in-Ok-Some.registration.0 (seen_root c.root_of-root.result) c.self.inside.findings c.register.new.self
    c.next_registration.ensures.serials c.self.invariant.registered (registers_some c.in-Ok-Some.field-0-is c.in-Ok-Some.ensures.answer).2 c.in_ok-register.ensures.registered c.forget.new.self c.forget.ensures in
    subst (λ (it : HeldWatchers). IsPage (record (c.self.inside) { watchers = it; findings = c.forget.new.self; settled = c.clear.new.self })) (sym c.in-Err-observe.ensures.same)
    (subst (λ (it : HeldFindings). IsPage (record (c.self.inside) { findings = it; settled = c.clear.new.self })) (sym back) (unsettled c.self.inside c.clear.new.self c.clear.ensures c.self.invariant))

pub returns-in-Err-observe-clause-findings : goal.returns-in-Err-observe-clause-findings
returns-in-Err-observe-clause-findings c =
    let back : c.forget.new.self ≡ c.self.inside.findings =
    registered_back c.self.inside.watchers c.self.inside.scroll_margins.items c.in_ok-watcher.watcher.0 c.in_ok-node.node.0 c.in-Ok-Some.registration.0 (seen_root c.root_of-root.result) c.self.inside.findings c.register.new.self
    c.next_registration.ensures.serials c.self.invariant.registered (registers_some c.in-Ok-Some.field-0-is c.in-Ok-Some.ensures.answer).2 c.in_ok-register.ensures.registered c.forget.new.self c.forget.ensures in
    same_findings _ _ (back ∙ ap (λ (v : PageView). v.found) c.self.view_is)

pub invariant_of-self-in_default : goal.invariant_of-self-in_default
invariant_of-self-in_default c =
    let elements = length c.self.inside.laid.elements.tree.elements in
    let documents = length c.self.inside.laid.elements.tree.documents in
    let made : c.in_ok-watcher.watcher.0 < length c.self.inside.watchers.part.made =
    subst (λ (v : PageView). c.in_ok-watcher.watcher.0 < length v.world.intersection_observers.made) (sym c.self.view_is) c.in_ok-watcher.ensures.there in
    let there : c.in_ok-node.node.0 < elements = subst (λ (v : PageView). c.in_ok-node.node.0 < length v.world.tree.elements) (sym c.self.view_is) c.in_ok-node.ensures.there in
    let watched : AreWatchers elements c.observe.new.self.part.made =
    observed_so c.observe.result elements c.in_ok-watcher.watcher.0 c.in_ok-node.node.0 c.self.inside.watchers c.observe.new.self c.observe.ensures.observed c.observe.ensures.same there c.self.invariant.watched in
    let registered : AreRegistered c.observe.new.self.part c.self.inside.scroll_margins.items c.register.new.self =
    registered_one c.self.inside.watchers c.self.inside.scroll_margins.items c.in_ok-watcher.watcher.0 c.in_ok-node.node.0 c.in-Ok-Some.registration.0 (seen_root c.root_of-root.result) c.self.inside.findings c.register.new.self
    c.next_registration.ensures.serials c.self.invariant.registered (registers_some c.in-Ok-Some.field-0-is c.in-Ok-Some.ensures.answer).2 c.in_ok-register.ensures.registered
    c.observe.new.self made (registers_some c.in-Ok-Some.field-0-is c.in-Ok-Some.ensures.answer).0 c.root_of-root.ensures c.in_default.ensures.observed in
    let room : HaveRoom elements documents c.register.new.self =
    subst (HaveRoom elements documents) (sym c.in_ok-register.ensures.registered)
    (room_registered elements documents c.in-Ok-Some.registration.0 (spot_of_root (seen_root c.root_of-root.result)) (element_spot c.in_ok-node.node.0) c.self.inside.findings c.self.invariant.room) in
    search rules

pub returns-clause-findings : goal.returns-clause-findings
returns-clause-findings c =
    subst (λ (v : PageView). KeepsFindings v.world.intersection_observers c.observe.new.self.part v.found c.register.new.self) c.self.view_is
    (registered_keeps c.self.inside.watchers c.self.inside.scroll_margins.items c.in_ok-watcher.watcher.0 c.in_ok-node.node.0 c.in-Ok-Some.registration.0 (seen_root c.root_of-root.result) c.self.inside.findings c.register.new.self
    c.next_registration.ensures.serials c.self.invariant.registered (registers_some c.in-Ok-Some.field-0-is c.in-Ok-Some.ensures.answer).2 c.in_ok-register.ensures.registered c.observe.new.self.part)
