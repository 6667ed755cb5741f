-- A byte that is looked at takes each text that has it one byte on.
use Rattle.std.proofs.Common.{◌≡◌, ℕ, ◌+◌, ◌-◌, List, get_or, ap, sym, subst, ◌∙◌, arith, Some, None}
use Rattle.script_model.specs.Lexing.{Ending, BadByte, LongLine, LineFeedByte, LongByte, SpaceByte, WordByte, ForbiddenByte, ends}
use Rattle.script_lexer.specs.declared.places.LexFault.{LexFault}
use Rattle.script_lexer.specs.Texts.{words_of, fault_seen, lines_before}
use Rattle.script_lexer.specs.Places.{Places, closed, line_kept, next_line_at, begun, kept_seen, behind, to_come, class_at, Sound, WentOn, Looked}
use Rattle.script_lexer.proofs.Parts.{first_taken}
use Rattle.script_lexer.proofs.Wholes.{after_space, after_word, after_feed, sound_space, sound_word, sound_end, at_long, at_bad}

-- the places behind it are those of a text that went on
went_to : (most : ℕ) (text : List ℕ) (at : ℕ) (p q r : Places) → r ≡ q → Sound text (at + 1) q → to_come most text (at + 1) q ≡ to_come most text at p
    → WentOn most text (at + 1) r None (to_come most text at p)
went_to most text at p q r is sound same = subst (λ (t : Places). WentOn most text (at + 1) t None (to_come most text at p)) (sym is) (sound, same)

pub space_looked : (most : ℕ) (bytes : List ℕ) (at : ℕ) (p q : Places) → class_at most bytes at p ≡ SpaceByte → q ≡ closed at p → Looked most bytes at p q None
space_looked most bytes at p q class is = λ text same s.
    let here : class_at most text at p ≡ SpaceByte = same.2 ∙ class in
    went_to most text at p (closed at p) q is (sound_space most text at p same.0 here s) (after_space most text at p same.0 s here)

pub word_looked : (most : ℕ) (bytes : List ℕ) (at : ℕ) (p q : Places) → class_at most bytes at p ≡ WordByte → q ≡ begun (get_or bytes at 0) at p → Looked most bytes at p q None
word_looked most bytes at p q class is = λ text same s.
    let here : class_at most text at p ≡ WordByte = same.2 ∙ class in
    went_to most text at p (begun (get_or text at 0) at p) q (is ∙ ap (λ (b : ℕ). begun b at p) (sym same.1)) (sound_word most text at p same.0 here s) (after_word most text at p same.0 s here)

pub feed_looked : (most : ℕ) (bytes : List ℕ) (at : ℕ) (p q : Places) → class_at most bytes at p ≡ LineFeedByte → q ≡ next_line_at at (line_kept (closed at p)) → Looked most bytes at p q None
feed_looked most bytes at p q class is = λ text same s.
    let here : class_at most text at p ≡ LineFeedByte = same.2 ∙ class in
    went_to most text at p (next_line_at at (line_kept (closed at p))) q is (sound_end most text at p same.0 here s) (after_feed most text at p same.0 s here)

-- a text ends here
ends_at : (most : ℕ) (text : List ℕ) (at : ℕ) (p : Places) (fault : LexFault) (ending : Ending) → Sound text at p → fault_seen fault ≡ ending → lines_before ending ≡ p.ended
    → behind (kept_seen text p) (ends ending) ≡ to_come most text at p → WentOn most text (at + 1) p (Some fault) (to_come most text at p)
ends_at most text at p fault ending s is line whole = (
  s.lines_fit,
  s.ended_before,
  omega (arith, s.start_before, s.inside),
  ap (λ (e : Ending). behind (kept_seen text p) (ends e)) is ∙ whole,
  ap lines_before is ∙ line,
  first_taken p.first p.words (words_of p.words p.lines) s.first_within s.laid,
)

pub long_looked : (most : ℕ) (bytes : List ℕ) (at : ℕ) (p : Places) (fault : LexFault) → class_at most bytes at p ≡ LongByte → fault_seen fault ≡ LongLine (p.ended + 1) → Looked most bytes at p p (Some fault)
long_looked most bytes at p fault class is = λ text same s.
    ends_at most text at p fault (LongLine (p.ended + 1)) s is (omega arith) (at_long most text at p same.0 (same.2 ∙ class))

pub bad_looked : (most : ℕ) (bytes : List ℕ) (at : ℕ) (p : Places) (fault : LexFault) → class_at most bytes at p ≡ ForbiddenByte → fault_seen fault ≡ BadByte (p.ended + 1) (at - p.start + 1) → Looked most bytes at p p (Some fault)
bad_looked most bytes at p fault class is = λ text same s.
    ends_at most text at p fault (BadByte (p.ended + 1) (at - p.start + 1)) s is (omega arith) (at_bad most text at p same.0 (same.2 ∙ class))
