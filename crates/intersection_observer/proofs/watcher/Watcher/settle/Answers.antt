use Rattle.std.proofs.Common.{◌≡◌, ◌∙◌, ap, refl, sym, ℕ, Bool, true, map, Result, Ok, Err}
use Rattle.std.proofs.lemmas.Bool.{false≢true}
use Rattle.std.specs.Result.{IsErr}
use Rattle.page_model.specs.World.{IntersectionObserver}
use Rattle.page_model.specs.IntersectionObserving.{is_registered}
use Rattle.intersection_observer.specs.Seen.{seen_registration, seen_finding}
use Rattle.intersection_observer.specs.Answers.{Settles}
use Rattle.intersection_observer.specs.declared.registration.Settled.{Settled}
use Rattle.intersection_observer.specs.declared.registration.Registered.{Registered}
use Rattle.intersection_observer.proofs.Only.{NoneFor, none-registered, only-news, settled-quiet}
use Rattle.intersection_observer.proofs.Entries.{none_from, none_found, entry_for, only_at, only_in, numbers_same}
use Rattle.intersection_observer.proofs.Written.{updated, settled-written}
use Rattle.intersection_observer.proofs.watcher.Watcher.settle.Goals as goal

never : (c : goal.In_default) → ⊥
never c =
    let n : ℕ = c.args.target.0 in
    let none : NoneFor n (map seen_registration (c.self.inside.registered.entries)) = none_found n (c.self.inside.registered.entries) (none_from _ (sym c.in_default.ensures.found)) in
    false≢true (sym (none-registered n _ none) ∙ ap (λ (it : IntersectionObserver). is_registered n it.registrations) c.self.view_is ∙ c.requires)

pub returns-in_default-clause-settled : goal.returns-in_default-clause-settled
returns-in_default-clause-settled c = absurd (never c)

pub returns-in_default-clause-answer : goal.returns-in_default-clause-answer
returns-in_default-clause-answer c = absurd (never c)

pub returns-then-not-is_news-clause-settled : goal.returns-then-not-is_news-clause-settled
returns-then-not-is_news-clause-settled c =
    let n : ℕ = c.args.target.0 in
    let before : Registered = c.index-before.result.now in
    let only = only_in n c.in-Some.place before (c.self.inside.registered.entries) c.self.view_is refl c.in-Some.ensures.unique (sym c.in-Some.ensures.index) c.index-before.ensures in
    settled-quiet n c.args.time c.in-Some.place (seen_finding c.args.finding) (seen_registration (n, before)) c.args.self.now only (sym c.if-not-is_news.ensures)

pub returns-then-not-is_news-clause-answer : goal.returns-then-not-is_news-clause-answer
returns-then-not-is_news-clause-answer c =
    let n : ℕ = c.args.target.0 in
    let before : Registered = c.index-before.result.now in
    let only = only_in n c.in-Some.place before (c.self.inside.registered.entries) c.self.view_is refl c.in-Some.ensures.unique (sym c.in-Some.ensures.index) c.index-before.ensures in
    sym (only-news n c.in-Some.place (seen_finding c.args.finding) (seen_registration (n, before)) _ only) ∙ sym c.if-not-is_news.ensures

refused : {E : Type 0} (result : Result Settled E) (news : Bool) → IsErr result → news ≡ true → Settles result news
refused (Ok settled) news err is = absurd (false≢true err)
refused (Err error) news err is = is

pub returns-in_err-push-clause-answer : goal.returns-in_err-push-clause-answer
returns-in_err-push-clause-answer c =
    let n : ℕ = c.args.target.0 in
    let before : Registered = c.index-before.result.now in
    let only = only_in n c.in-Some.place before (c.self.inside.registered.entries) c.self.view_is refl c.in-Some.ensures.unique (sym c.in-Some.ensures.index) c.index-before.ensures in
    refused c.from_residual.result _ (c.from_residual.ensures.0) (sym (only-news n c.in-Some.place (seen_finding c.args.finding) (seen_registration (n, before)) _ only) ∙ sym c.if-not-is_news.ensures)

pub invariant_of-self-2 : goal.invariant_of-self-2
invariant_of-self-2 c =
    let n : ℕ = c.args.target.0 in
    let before : Registered = c.index-before.result.now in
    c.self.invariant
    ∙ sym (numbers_same (c.self.inside.registered.entries) c.in-Some.place (n, before) (updated c.args.finding before) (entry_for n c.in-Some.place (c.self.inside.registered.entries) before (sym c.in-Some.ensures.index) c.index-before.ensures) refl)

pub returns-clause-settled : goal.returns-clause-settled
returns-clause-settled c =
    let n : ℕ = c.args.target.0 in
    let before : Registered = c.index-before.result.now in
    let at = entry_for n c.in-Some.place (c.self.inside.registered.entries) before (sym c.in-Some.ensures.index) c.index-before.ensures in
    settled-written n c.args.time c.in-Some.place c.args.finding (c.self.inside.registered.entries) before (c.self.inside.queue.items) (c.push.new.self.items) c.self.view_is refl refl
    at (only_at n c.in-Some.place (c.self.inside.registered.entries) (n, before) c.in-Some.ensures.unique at refl) (sym c.if-not-is_news.ensures) c.in_ok-push.ensures.items

pub returns-clause-answer : goal.returns-clause-answer
returns-clause-answer c =
    let n : ℕ = c.args.target.0 in
    let before : Registered = c.index-before.result.now in
    let only = only_in n c.in-Some.place before (c.self.inside.registered.entries) c.self.view_is refl c.in-Some.ensures.unique (sym c.in-Some.ensures.index) c.index-before.ensures in
    sym (only-news n c.in-Some.place (seen_finding c.args.finding) (seen_registration (n, before)) _ only) ∙ sym c.if-not-is_news.ensures
