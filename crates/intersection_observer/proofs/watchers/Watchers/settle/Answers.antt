use Rattle.std.proofs.Common.{◌≡◌, ◌∙◌, ap, sym, subst, ℕ, Result, Ok, Err, OnOk, OnErr, arith}
use Rattle.page_model.specs.World.{Finding, IntersectionObserver}
use Rattle.page_model.specs.IntersectionObserving.{is_registered}
use Rattle.intersection_observer.specs.Seen.{seen_finding}
use Rattle.intersection_observer.specs.Settling.{settled_at, settled_standing, is_news_of, is_news_at}
use Rattle.intersection_observer.specs.Answers.{Settles}
use Rattle.intersection_observer.specs.Held.{seen_place}
use Rattle.intersection_observer.proofs.Standing.{stands-there, stands-registered}
use Rattle.intersection_observer.proofs.Subjects.{subjects_of, settled-subjects}
use Rattle.intersection_observer.proofs.Counts.{held-kept}
use Rattle.intersection_observer.proofs.Changing.{within, read, once_changed}
use Rattle.intersection_observer.proofs.watchers.Watchers.settle.Goals as goal

same_subjects : {A E : Type 0} (result : Result A E) (n time : ℕ) (now : Finding) (old new : IntersectionObserver) → OnOk result (new ≡ settled_at n time now old) → OnErr result (new ≡ old) → subjects_of (new.registrations) ≡ subjects_of (old.registrations)
same_subjects (Ok settled) n time now old new ok err = ap (λ (it : IntersectionObserver). subjects_of (it.registrations)) ok ∙ settled-subjects n time now (old.registrations)
same_subjects (Err refused) n time now old new ok err = ap (λ (it : IntersectionObserver). subjects_of (it.registrations)) err

on_ok : {A E : Type 0} (result : Result A E) {P Q : Type 0} → (P → Q) → OnOk result P → OnOk result Q
on_ok (Ok settled) f p = f p
on_ok (Err refused) f p = p

pub index_mut-requires : goal.index_mut-requires
index_mut-requires c = omega (arith, c.self.inside.made.ok.0, within c.self.view_is (stands-there c.args.registration.0 c.args.self.now.part.made (seen_place c.place_of-place.result) c.place_of-place.ensures.value))

pub settle-requires : goal.settle-requires
settle-requires c =
    let there = stands-there c.args.registration.0 c.args.self.now.part.made (seen_place c.place_of-place.result) c.place_of-place.ensures.value in
    ap (λ (it : IntersectionObserver). is_registered c.place_of-place.result.target it.registrations) (read c.self.view_is there c.index_mut.ensures.value)
    ∙ stands-registered c.args.registration.0 c.args.self.now.part.made (seen_place c.place_of-place.result) c.place_of-place.ensures.value

pub invariant_of-self : goal.invariant_of-self
invariant_of-self c =
    let there = stands-there c.args.registration.0 c.args.self.now.part.made (seen_place c.place_of-place.result) c.place_of-place.ensures.value in
    held-kept c.self.inside.most_watchers c.self.inside.most_registrations c.self.inside.places c.self.inside.given (c.self.inside.made.items) c.place_of-place.result.watcher c.index_mut.result.now c.settle.new.self
    (within c.self.view_is there) c.index_mut.ensures.value
    (same_subjects c.settle.result c.place_of-place.result.target c.args.time (seen_finding c.args.finding) c.index_mut.result.now c.settle.new.self c.settle.ensures.settled c.settle.ensures.same) c.self.invariant

pub returns-clause-settled : goal.returns-clause-settled
returns-clause-settled c =
    let there = stands-there c.args.registration.0 c.args.self.now.part.made (seen_place c.place_of-place.result) c.place_of-place.ensures.value in
    let n : ℕ = c.place_of-place.result.target in
    let now : Finding = seen_finding c.args.finding in
    on_ok c.settle.result
    (λ (is : c.settle.new.self ≡ settled_at n c.args.time now c.index_mut.result.now).
    once_changed (settled_at n c.args.time now) c.self.view_is there c.index_mut.ensures.value is
    ∙ ap (λ standing. record (c.args.self.now) { part = settled_standing standing c.args.time now (c.args.self.now.part) }) (sym c.place_of-place.ensures.value))
    c.settle.ensures.settled

pub returns-clause-answer : goal.returns-clause-answer
returns-clause-answer c =
    let there = stands-there c.args.registration.0 c.args.self.now.part.made (seen_place c.place_of-place.result) c.place_of-place.ensures.value in
    let n : ℕ = c.place_of-place.result.target in
    let now : Finding = seen_finding c.args.finding in
    subst (Settles c.settle.result)
    (ap (λ (it : IntersectionObserver). is_news_of n now it.registrations) (read c.self.view_is there c.index_mut.ensures.value)
    ∙ ap (λ standing. is_news_at standing now c.args.self.now.part) (sym c.place_of-place.ensures.value))
    c.settle.ensures.answer
