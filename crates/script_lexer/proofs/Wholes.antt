-- What a text gives stays the same while it is read.
use Rattle.std.proofs.Common.{◌≡◌, ℕ, ◌+◌, ◌-◌, ◌<◌, ◌≤◌, ◌==◌, Bool, true, false, cond, List, [], ◌∷◌, ◌++◌, length, drop, get_or, refl, ap, sym, subst, ◌∙◌, arith, length-drop, Option, Some, None}
use Rattle.std.proofs.lemmas.Bool.{eqb-true}
use Rattle.std.proofs.lemmas.Bool.Decides.{nat_tests}
use Rattle.std.proofs.lemmas.List.{append-nil, drop_more, drop_all}
use Rattle.std.proofs.lemmas.List.Elements.{All-nil, All-get_or}
use Rattle.script_model.specs.Lexing.{Scan, Lexed, Line as LineOfWords, Whole, BadByte, LongLine, ByteClass, LineFeedByte, LongByte, SpaceByte, WordByte, ForbiddenByte, line_start, close_word, passed, space, word_byte, add_line, ends, next_line, look_as}
use Rattle.script_model.specs.Lexing.{Ending}
use Rattle.script_lexer.specs.declared.places.LexFault.{LexFault}
use Rattle.script_lexer.specs.declared.places.Span.{Span}
use Rattle.script_lexer.specs.Texts.{InLine, LineFits, words_of, fault_seen, lines_before}
use Rattle.script_lexer.specs.Limited.{class_within, lex_within, lexed_within}
use Rattle.script_lexer.specs.Places.{Places, no_places, closed_from, closed, line_kept, next_line_at, begun, scan_seen, kept_seen, behind, to_come, class_at, Sound, WentOn, Scanned, lines_up_to}
use Rattle.script_lexer.proofs.Parts.{all_taken}
use Rattle.script_lexer.proofs.Steps.{closed_seen, closed_passed, closed_kept, sound_closed, sound_later, begun_seen, begun_kept, sound_begun}
use Rattle.script_lexer.proofs.Ends.{line_added, next_closed, next_kept, sound_feed, kept_fit, kept_laid, ended_line}

-- how the text goes on behind a place
abbrev on_at : ℕ → List ℕ → ℕ → Scan → Lexed
on_at most bytes at t = lex_within most t (drop (at + 1) bytes)

came : (most : ℕ) (bytes : List ℕ) (at : ℕ) (p : Places) (c : ByteClass) → at < length bytes → class_at most bytes at p ≡ c
    → to_come most bytes at p ≡ behind (kept_seen bytes p) (look_as c (get_or bytes at 0) (scan_seen bytes at p) (on_at most bytes at))
unfolding lex_within
came most bytes at p c within is =
    ap (λ (bs : List ℕ). behind (kept_seen bytes p) (lex_within most (scan_seen bytes at p) bs)) (drop_more bytes at 0 within)
    ∙ ap (λ (k : ByteClass). behind (kept_seen bytes p) (look_as k (get_or bytes at 0) (scan_seen bytes at p) (on_at most bytes at))) is

look_space : (byte : ℕ) (s : Scan) (on : Scan → Lexed) → look_as SpaceByte byte s on ≡ on (passed byte (close_word s))
unfolding look_as space
look_space byte s on = refl

look_word : (byte : ℕ) (s : Scan) (on : Scan → Lexed) → look_as WordByte byte s on ≡ on (word_byte byte s)
unfolding look_as
look_word byte s on = refl

look_feed : (byte : ℕ) (s : Scan) (on : Scan → Lexed) → look_as LineFeedByte byte s on ≡ add_line (close_word s) (on (line_start (s.number + 1)))
unfolding look_as
look_feed byte s on = refl

pub after_space : (most : ℕ) (bytes : List ℕ) (at : ℕ) (p : Places) → at < length bytes → Sound bytes at p → class_at most bytes at p ≡ SpaceByte
    → to_come most bytes (at + 1) (closed at p) ≡ to_come most bytes at p
after_space most bytes at p within s is =
    sym (came most bytes at p SpaceByte within is
    ∙ ap (behind (kept_seen bytes p)) (look_space (get_or bytes at 0) (scan_seen bytes at p) (on_at most bytes at))
    ∙ ap (λ (t : Scan). behind (kept_seen bytes p) (on_at most bytes at (passed (get_or bytes at 0) t))) (closed_seen bytes at p p.open_word s.first_within s.inside s.open_within)
    ∙ ap (λ (t : Scan). behind (kept_seen bytes p) (on_at most bytes at t)) (closed_passed bytes at p p.open_word s.start_before within)
    ∙ ap (λ (lines : List LineOfWords). behind lines (on_at most bytes at (scan_seen bytes (at + 1) (closed at p)))) (sym (closed_kept bytes at p p.open_word s.lines_fit)))

pub after_word : (most : ℕ) (bytes : List ℕ) (at : ℕ) (p : Places) → at < length bytes → Sound bytes at p → class_at most bytes at p ≡ WordByte
    → to_come most bytes (at + 1) (begun (get_or bytes at 0) at p) ≡ to_come most bytes at p
after_word most bytes at p within s is =
    sym (came most bytes at p WordByte within is
    ∙ ap (behind (kept_seen bytes p)) (look_word (get_or bytes at 0) (scan_seen bytes at p) (on_at most bytes at))
    ∙ ap (λ (t : Scan). behind (kept_seen bytes p) (on_at most bytes at t)) (begun_seen bytes at p p.in_comment p.open_word s.start_before within s.open_within)
    ∙ ap (λ (lines : List LineOfWords). behind lines (on_at most bytes at (scan_seen bytes (at + 1) (begun (get_or bytes at 0) at p)))) (sym (begun_kept bytes at p (get_or bytes at 0))))

pub after_feed : (most : ℕ) (bytes : List ℕ) (at : ℕ) (p : Places) → at < length bytes → Sound bytes at p → class_at most bytes at p ≡ LineFeedByte
    → to_come most bytes (at + 1) (next_line_at at (line_kept (closed at p))) ≡ to_come most bytes at p
after_feed most bytes at p within s is =
    let q_sound : Sound bytes at (closed at p) = sound_closed bytes at p p.open_word s in
    sym (came most bytes at p LineFeedByte within is
    ∙ ap (behind (kept_seen bytes p)) (look_feed (get_or bytes at 0) (scan_seen bytes at p) (on_at most bytes at))
    ∙ ap (λ (t : Scan). behind (kept_seen bytes p) (add_line t (on_at most bytes at (line_start (p.ended + 1 + 1))))) (closed_seen bytes at p p.open_word s.first_within s.inside s.open_within)
    ∙ ap (λ (lines : List LineOfWords). behind lines (add_line (scan_seen bytes at (closed at p)) (on_at most bytes at (line_start (p.ended + 1 + 1))))) (sym (closed_kept bytes at p p.open_word s.lines_fit))
    ∙ line_added bytes at (closed at p) (on_at most bytes at (line_start (p.ended + 1 + 1))) q_sound
    ∙ ap (λ (lines : List LineOfWords). behind lines (on_at most bytes at (line_start (p.ended + 1 + 1)))) (sym (next_kept bytes at (closed at p)))
    ∙ ap (λ (t : Scan). behind (kept_seen bytes (next_line_at at (line_kept (closed at p)))) (on_at most bytes at t)) (sym (next_closed bytes at p p.open_word)))

-- a line feed ends the line, and no other byte does
feed_test : (feed long space word : Bool)
    → cond feed LineFeedByte (cond long LongByte (cond space SpaceByte (cond word WordByte ForbiddenByte))) ≡ LineFeedByte → feed ≡ true
feed_test true long space word e = refl
feed_test false true space word e = absurd cc
feed_test false false true word e = absurd cc
feed_test false false false true e = absurd cc
feed_test false false false false e = absurd cc

other_test : (feed : Bool) (class other : ByteClass) → (class ≡ LineFeedByte → ⊥) → cond feed LineFeedByte other ≡ class → feed ≡ false
other_test true class other apart e = absurd (apart (sym e))
other_test false class other apart e = refl

is_feed : (most : ℕ) (bytes : List ℕ) (at : ℕ) (p : Places) → class_at most bytes at p ≡ LineFeedByte → get_or bytes at 0 ≡ 10
unfolding class_within
is_feed most bytes at p is = eqb-true (get_or bytes at 0) 10 (feed_test (get_or bytes at 0 == 10) _ _ _ is)

no_feed : (most : ℕ) (bytes : List ℕ) (at : ℕ) (p : Places) (class : ByteClass) → (class ≡ LineFeedByte → ⊥) → class_at most bytes at p ≡ class → (get_or bytes at 0 == 10) ≡ false
unfolding class_within
no_feed most bytes at p class apart is = other_test (get_or bytes at 0 == 10) class _ apart is

space_is_none : SpaceByte ≡ LineFeedByte → ⊥
space_is_none e = absurd cc

word_is_none : WordByte ≡ LineFeedByte → ⊥
word_is_none e = absurd cc

pub sound_space : (most : ℕ) (bytes : List ℕ) (at : ℕ) (p : Places) → at < length bytes → class_at most bytes at p ≡ SpaceByte → Sound bytes at p → Sound bytes (at + 1) (closed at p)
sound_space most bytes at p within is s = sound_later bytes at (closed at p) within (no_feed most bytes at p SpaceByte space_is_none is) (sound_closed bytes at p p.open_word s)

pub sound_end : (most : ℕ) (bytes : List ℕ) (at : ℕ) (p : Places) → at < length bytes → class_at most bytes at p ≡ LineFeedByte → Sound bytes at p → Sound bytes (at + 1) (next_line_at at (line_kept (closed at p)))
sound_end most bytes at p within is s = sound_feed bytes at p within (is_feed most bytes at p is) (sound_closed bytes at p p.open_word s)

pub sound_word : (most : ℕ) (bytes : List ℕ) (at : ℕ) (p : Places) → at < length bytes → class_at most bytes at p ≡ WordByte → Sound bytes at p → Sound bytes (at + 1) (begun (get_or bytes at 0) at p)
sound_word most bytes at p within is s = sound_begun bytes at p p.in_comment p.open_word within (no_feed most bytes at p WordByte word_is_none is) s

look_long : (byte : ℕ) (s : Scan) (on : Scan → Lexed) → look_as LongByte byte s on ≡ ends (LongLine s.number)
unfolding look_as
look_long byte s on = refl

look_bad : (byte : ℕ) (s : Scan) (on : Scan → Lexed) → look_as ForbiddenByte byte s on ≡ ends (BadByte s.number s.column)
unfolding look_as
look_bad byte s on = refl

pub at_long : (most : ℕ) (bytes : List ℕ) (at : ℕ) (p : Places) → at < length bytes → class_at most bytes at p ≡ LongByte
    → behind (kept_seen bytes p) (ends (LongLine (p.ended + 1))) ≡ to_come most bytes at p
at_long most bytes at p within is =
    sym (came most bytes at p LongByte within is ∙ ap (behind (kept_seen bytes p)) (look_long (get_or bytes at 0) (scan_seen bytes at p) (on_at most bytes at)))

pub at_bad : (most : ℕ) (bytes : List ℕ) (at : ℕ) (p : Places) → at < length bytes → class_at most bytes at p ≡ ForbiddenByte
    → behind (kept_seen bytes p) (ends (BadByte (p.ended + 1) (at - p.start + 1))) ≡ to_come most bytes at p
at_bad most bytes at p within is =
    sym (came most bytes at p ForbiddenByte within is ∙ ap (behind (kept_seen bytes p)) (look_bad (get_or bytes at 0) (scan_seen bytes at p) (on_at most bytes at)))

-- before the first byte
pub blank_sound : (bytes : List ℕ) → Sound bytes 0 no_places
blank_sound bytes = record {
  inside = omega arith;
  start_before = omega arith;
  first_within = omega arith;
  ended_before = omega arith;
  begins = λ some. absurd (omega arith);
  started = refl;
  fed = refl;
  open_within = tt;
  after_within = omega arith;
  spans_within = All-nil (InLine 0 0);
  lines_fit = All-nil (LineFits bytes []);
  laid = refl;
}

pub blank_whole : (most : ℕ) (bytes : List ℕ) → to_come most bytes 0 no_places ≡ lexed_within most bytes
unfolding lexed_within line_start
blank_whole most bytes = refl

abbrev pub lexed_as : List LineOfWords → Ending → Lexed
lexed_as lines ending = record { lines = lines; ending = ending }

ended_whole : (lines : List LineOfWords) (ending : Ending) → behind lines (ends ending) ≡ lexed_as lines ending
unfolding ends
ended_whole lines ending = ap (λ (ls : List LineOfWords). lexed_as ls ending) (append-nil lines)

-- the text ends here
end_whole : (most : ℕ) (bytes : List ℕ) (p : Places) → Sound bytes (length bytes) p
    → to_come most bytes (length bytes) p ≡ behind (kept_seen bytes (line_kept (closed (length bytes) p))) (ends (Whole (next_line (scan_seen bytes (length bytes) p))))
unfolding lex_within
end_whole most bytes p s =
    ap (λ (bs : List ℕ). behind (kept_seen bytes p) (lex_within most (scan_seen bytes (length bytes) p) bs)) (drop_all (length bytes) bytes (omega arith))
    ∙ ap (λ (t : Scan). behind (kept_seen bytes p) (add_line t (ends (Whole (next_line (scan_seen bytes (length bytes) p)))))) (closed_seen bytes (length bytes) p p.open_word s.first_within s.inside s.open_within)
    ∙ ap (λ (lines : List LineOfWords). behind lines (add_line (scan_seen bytes (length bytes) (closed (length bytes) p)) (ends (Whole (next_line (scan_seen bytes (length bytes) p)))))) (sym (closed_kept bytes (length bytes) p p.open_word s.lines_fit))
    ∙ line_added bytes (length bytes) (closed (length bytes) p) (ends (Whole (next_line (scan_seen bytes (length bytes) p)))) (sound_closed bytes (length bytes) p p.open_word s)

same_count : (start size ended : ℕ) → start ≤ size → cond (start == size) ended (ended + 1) + 1 ≡ cond (size - start + 1 == 1) (ended + 1) (ended + 1 + 1)
same_count start size ended within = grind (arith, nat_tests)

next_line_is : (bytes : List ℕ) (p : Places) → p.start ≤ length bytes → lines_up_to None (length bytes) p + 1 ≡ next_line (scan_seen bytes (length bytes) p)
unfolding next_line
next_line_is bytes p within = same_count p.start (length bytes) p.ended within

line_start_stays : (p : Places) (c : Bool) → (cond c p (record p { lines = p.lines ++ ended_line p ∷ [] })).start ≡ p.start
line_start_stays p true = refl
line_start_stays p false = refl

line_ended_stays : (p : Places) (c : Bool) → (cond c p (record p { lines = p.lines ++ ended_line p ∷ [] })).ended ≡ p.ended
line_ended_stays p true = refl
line_ended_stays p false = refl

closed_start_stays : (at : ℕ) (p : Places) (w : Option ℕ) → (closed_from w at p).start ≡ p.start
closed_start_stays at p None = refl
closed_start_stays at p (Some from) = refl

closed_ended_stays : (at : ℕ) (p : Places) (w : Option ℕ) → (closed_from w at p).ended ≡ p.ended
closed_ended_stays at p None = refl
closed_ended_stays at p (Some from) = refl

up_to : ℕ → ℕ → ℕ → ℕ
up_to size start ended = cond (start == size) ended (ended + 1)

count_stays : (size : ℕ) (p q : Places) → q.start ≡ p.start → q.ended ≡ p.ended → lines_up_to None size q ≡ lines_up_to None size p
unfolding up_to
count_stays size p q start ended = ap (λ (n : ℕ). up_to size n q.ended) start ∙ ap (up_to size p.start) ended

pub end_scanned : (most : ℕ) (bytes : List ℕ) (p : Places) → Sound bytes (length bytes) p → to_come most bytes (length bytes) p ≡ lexed_within most bytes
    → Scanned most bytes (line_kept (closed (length bytes) p)) None
end_scanned most bytes p s whole =
    let q_start : (line_kept (closed (length bytes) p)).start ≡ p.start =
    line_start_stays (closed (length bytes) p) ((closed (length bytes) p).first == length (closed (length bytes) p).words) ∙ closed_start_stays (length bytes) p p.open_word in
    let q_ended : (line_kept (closed (length bytes) p)).ended ≡ p.ended =
    line_ended_stays (closed (length bytes) p) ((closed (length bytes) p).first == length (closed (length bytes) p).words) ∙ closed_ended_stays (length bytes) p p.open_word in
    let count : lines_up_to None (length bytes) (line_kept (closed (length bytes) p)) + 1 ≡ next_line (scan_seen bytes (length bytes) p) =
    ap (λ (n : ℕ). n + 1) (count_stays (length bytes) p (line_kept (closed (length bytes) p)) q_start q_ended) ∙ next_line_is bytes p s.start_before in
    let is : lexed_as (kept_seen bytes (line_kept (closed (length bytes) p))) (Whole (lines_up_to None (length bytes) (line_kept (closed (length bytes) p)) + 1)) ≡ lexed_within most bytes =
    ap (λ (n : ℕ). lexed_as (kept_seen bytes (line_kept (closed (length bytes) p))) (Whole n)) count
    ∙ sym (ended_whole (kept_seen bytes (line_kept (closed (length bytes) p))) (Whole (next_line (scan_seen bytes (length bytes) p))))
    ∙ sym (end_whole most bytes p s) ∙ whole in
    let q : Places = line_kept (closed (length bytes) p) in
    let all : q.words ≡ words_of q.words q.lines = kept_laid bytes (length bytes) (closed (length bytes) p) (sound_closed bytes (length bytes) p p.open_word s) in record {
      lines_fit = kept_fit bytes (length bytes) (closed (length bytes) p) (sound_closed bytes (length bytes) p p.open_word s);
      ended_before = omega (arith, q_start, q_ended, s.ended_before);
      start_before = omega (arith, q_start, s.start_before);
      whole = is;
      counted = ap (λ (l : Lexed). lines_before l.ending) (sym is) ∙ omega arith;
      begin = all_taken q.words (words_of q.words q.lines) all;
      all = λ _. all;
    }

pub fault_scanned : (most : ℕ) (bytes : List ℕ) (at : ℕ) (p : Places) (fault : LexFault) → WentOn most bytes at p (Some fault) (lexed_within most bytes) → Scanned most bytes p (Some fault)
fault_scanned most bytes at p fault went =
    let is : lexed_as (kept_seen bytes p) (fault_seen fault) ≡ lexed_within most bytes = sym (ended_whole (kept_seen bytes p) (fault_seen fault)) ∙ went.3 in record {
      lines_fit = went.0;
      ended_before = went.1;
      start_before = went.2;
      whole = is;
      counted = ap (λ (l : Lexed). lines_before l.ending) (sym is) ∙ went.4;
      begin = went.5;
      all = λ none. absurd cc;
    }

-- a line that has a word has a byte
worded : (bytes : List ℕ) (at : ℕ) (p : Places) → Sound bytes at p → p.first < length p.words → p.start < at
worded bytes at p s some =
    let no_span : Span = record { from = 0; to = 0 } in
    let first : InLine p.start at (get_or (drop p.first p.words) 0 no_span) = All-get_or (InLine p.start at) (drop p.first p.words) 0 no_span (omega (arith, length-drop p.first p.words)) s.spans_within in
    omega (arith, first.0, first.1, first.2)

-- so its number fits
pub last_number : (bytes : List ℕ) (p : Places) → length bytes < 4294967296 → Sound bytes (length bytes) p → p.first < length p.words → p.ended + 1 < 4294967296
last_number bytes p small s some = omega (arith, worded bytes (length bytes) p s some, s.ended_before)

-- behind the last word
pub last_sound : (bytes : List ℕ) (p q : Places) → Sound bytes (length bytes) p → q ≡ closed (length bytes) p → Sound bytes (length bytes) q
last_sound bytes p q s is = subst (λ (r : Places). Sound bytes (length bytes) r) (sym is) (sound_closed bytes (length bytes) p p.open_word s)

pub last_scanned : (most : ℕ) (bytes : List ℕ) (p q r : Places) → Sound bytes (length bytes) p → to_come most bytes (length bytes) p ≡ lexed_within most bytes
    → q ≡ closed (length bytes) p → r ≡ line_kept q → Scanned most bytes r None
last_scanned most bytes p q r s whole q_is r_is =
    subst (λ (t : Places). Scanned most bytes t None) (sym (r_is ∙ ap line_kept q_is)) (end_scanned most bytes p s whole)
