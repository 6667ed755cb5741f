use Rattle.std.proofs.Common.{◌≡◌, ◌∙◌, sym, ap, ℕ, Bool, cond, List, [], ◌∷◌, ◌++◌, length, arith}
use Rattle.std.specs.Prelude.{bytes_eq}
use Rattle.std.specs.List.{position_or_len}
use Rattle.page_stream.specs.declared.splitting.Splitting.{Splitting}
use Rattle.page_stream.proofs.Places.{any_placed, none_placed}
use Rattle.page_stream.proofs.Held.{held_turned, held_begun, held_same}
use Rattle.page_stream.proofs.splitting.Splitting.turn_to.Goals as goal
use Rattle.page_stream.proofs.splitting.Splitting.turn_to.Goals.{then-place-len+else-most_pages-place+in-Ok-Ok, else-place-len}

pub returns-then-most_pages-place-clause-too_many :
    goal.returns-then-most_pages-place-clause-too_many
returns-then-most_pages-place-clause-too_many c = λ number same.
    let pos : c.place_of-place.result ≡ position_or_len (bytes_eq c.args.name) c.args.self.now.pages.items =
    c.place_of-place.ensures.place ∙ ap (λ pages. position_or_len (bytes_eq c.args.name) pages) c.deref.ensures.value in
    let long = ap length c.deref.ensures.value in
    (cc, omega arith, none_placed (bytes_eq c.args.name) c.args.self.now.pages.items (omega arith))

pub returns-clause-split : goal.returns-clause-split
returns-clause-split c = λ owned page held.
    let pos : c.place_of-place.result ≡ position_or_len (bytes_eq c.args.name) c.args.self.now.pages.items =
    c.place_of-place.ensures.place ∙ ap (λ pages. position_or_len (bytes_eq c.args.name) pages) c.deref.ensures.value in
    let long = ap length c.deref.ensures.value in
    elim c.if-place-len.branch [
      | then-place-len+else-most_pages-place+in-Ok-Ok w ↦
          held_same (held_begun c.args.name held (omega arith) (omega arith))
          (ap (λ (s : Splitting). s.pages.items) w.self-is ∙ w.in-Ok-Ok.ensures.items)
          (ap (λ (s : Splitting). s.lines.items) w.self-is ∙ w.in-Ok-Ok.ensures'.items)
          (ap (λ (s : Splitting). s.parts.items) w.self-is)
      | else-place-len w ↦
          held_same (held_turned c.args.name held pos)
          (ap (λ (s : Splitting). s.pages.items) w.self-is)
          (ap (λ (s : Splitting). s.lines.items) w.self-is)
          (ap (λ (s : Splitting). s.parts.items) w.self-is)
    ]

pub returns-clause-pages : goal.returns-clause-pages
returns-clause-pages c =
    let pos : c.place_of-place.result ≡ position_or_len (bytes_eq c.args.name) c.args.self.now.pages.items =
    c.place_of-place.ensures.place ∙ ap (λ pages. position_or_len (bytes_eq c.args.name) pages) c.deref.ensures.value in
    let long = ap length c.deref.ensures.value in
    let by_test : Bool → List (List ℕ) = λ test. cond test c.args.self.now.pages.items (c.args.self.now.pages.items ++ (c.args.name ∷ [])) in
    elim c.if-place-len.branch [
      | then-place-len+else-most_pages-place+in-Ok-Ok w ↦
          ap (λ (s : Splitting). s.pages.items) w.self-is
          ∙ w.in-Ok-Ok.ensures.items
          ∙ sym (ap by_test (none_placed (bytes_eq c.args.name) c.args.self.now.pages.items (omega arith)))
      | else-place-len w ↦
          ap (λ (s : Splitting). s.pages.items) w.self-is
          ∙ sym (ap by_test (any_placed (bytes_eq c.args.name) c.args.self.now.pages.items (omega arith)))
    ]
