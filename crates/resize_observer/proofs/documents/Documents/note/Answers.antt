use Rattle.std.proofs.Common.{◌≡◌, ◌∙◌, ◌+◌, ap, cond, nat_eq, unwrap_or, Some}
use Rattle.std.specs.HashMap.{get}
use Rattle.resize_observer.specs.Documents.{same_key}
use Rattle.resize_observer.proofs.Telling.{tells-more}
use Rattle.resize_observer.proofs.documents.Documents.note.Goals as goal

pub returns-clause-noted : goal.returns-clause-noted
returns-clause-noted c = λ made new told long its.
    let was = c.in_ok-reserve.ensures.entries.2 in
    let place : c.unwrap_or-place.result ≡ unwrap_or (get nat_eq c.args.self.now.counts c.args.document.0) 0 =
    c.unwrap_or-place.ensures ∙ ap (λ found. unwrap_or found 0) (c.copied.ensures ∙ c.get.ensures.value ∙ was c.args.document.0) in
    tells-more c.args.document.0 c.args.number c.args.self.now (record { counts = c.insert-2.new.self; numbers = c.insert.new.self }) made new
    (λ q. c.in_ok-insert-2.ensures.updates.0 q ∙ ap (λ n. cond (nat_eq c.args.document.0 q) (Some (n + 1)) (get nat_eq c.reserve.new.self q)) place ∙ ap (cond (nat_eq c.args.document.0 q) (Some (unwrap_or (get nat_eq c.args.self.now.counts c.args.document.0) 0 + 1))) (was q))
    (λ q. c.in_ok-insert.ensures.updates.0 q ∙ ap (λ n. cond (same_key (c.args.document.0, n) q) (Some c.args.number) (get same_key c.args.self.now.numbers q)) place)
    told long its
