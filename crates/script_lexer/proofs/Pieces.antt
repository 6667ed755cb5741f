-- A text in pieces: what was read of the bytes so far holds whatever stands behind them.
use Rattle.std.proofs.Common.{◌≡◌, ℕ, ◌+◌, ◌-◌, ◌<◌, ◌≤◌, ◌&&◌, ◌||◌, ◌==◌, Bool, true, false, cond, List, [], ◌++◌, length, drop, get_or, refl, ap, sym, subst, ◌∙◌, arith, length-append, Option, Some, None, inl, inr, ⊎_elim, nat_lt, nat_le}
use Rattle.std.specs.Prelude.{is_some}
use Rattle.std.proofs.Math.Nat.{eq-or-lt_of_le}
use Rattle.std.proofs.Math.ListN.{get_or-append}
use Rattle.std.proofs.lemmas.List.{append-nil}
use Rattle.word_model.specs.Numbers.{begins_with}
use Rattle.script_model.specs.Lexing.{Lexed, LineFeedByte, LongByte, SpaceByte, WordByte, ForbiddenByte}
use Rattle.script_lexer.specs.declared.places.LexFault.{LexFault}
use Rattle.script_lexer.specs.Limited.{class_within, lexed_within}
use Rattle.script_lexer.specs.Places.{Places, no_places, settled, IsSettled, WentOn, SameByte, Looked, IsRead}
use Rattle.script_lexer.proofs.Feeds.{feed_is}
use Rattle.script_lexer.proofs.Wholes.{blank_sound, blank_whole}

-- a carriage return that can be judged isn't the last byte
not_last : (c : Bool) (at n : ℕ) → at < cond c (n - 1) n → (at + 1 ≡ n → c ≡ true) → at + 1 < n
not_last true at n below last = omega arith
not_last false at n below last =
    let within : at + 1 ≤ n = omega arith in
    ⊎_elim (λ (end : at + 1 ≡ n). let no : false ≡ true = last end in absurd cc) (λ (h : at + 1 < n). h) (eq-or-lt_of_le within)

next_same : (bytes more : List ℕ) (at : ℕ) → at < settled bytes → (get_or bytes at 0 == 13) ≡ true → begins_with 10 (drop (at + 1) (bytes ++ more)) ≡ begins_with 10 (drop (at + 1) bytes)
next_same bytes more at below return =
    let last : at + 1 ≡ length bytes → (get_or bytes (length bytes - 1) 0 == 13) ≡ true =
    λ end. let place : length bytes - 1 ≡ at = omega arith in ap (λ (n : ℕ). get_or bytes n 0 == 13) place ∙ return in
    let within : at + 1 < length bytes = not_last (get_or bytes (length bytes - 1) 0 == 13) at (length bytes) below last in
    feed_is (bytes ++ more) (at + 1) (omega (arith, length-append bytes more)) ∙ ap (λ (b : ℕ). b == 10) (get_or-append bytes more 0 (at + 1) within) ∙ sym (feed_is bytes (at + 1) within)

return_test : (return feed other : Bool) → (return ≡ true → feed ≡ other) → (return && feed) ≡ (return && other)
return_test true feed other same = same refl
return_test false feed other same = refl

-- the byte behind tells of a carriage return alone
next_class : (most byte column : ℕ) (feed other : Bool) → ((byte == 13) ≡ true → feed ≡ other) → class_within most byte feed column ≡ class_within most byte other column
unfolding class_within
next_class most byte column feed other same =
    ap (λ (before_feed : Bool). cond (byte == 10) LineFeedByte (cond (nat_lt most column) LongByte (cond (byte == 32 || byte == 9 || before_feed) SpaceByte (cond (nat_le 33 byte && nat_le byte 126) WordByte ForbiddenByte))))
    (return_test (byte == 13) feed other same)

same_byte : (most : ℕ) (bytes more : List ℕ) (at : ℕ) (p : Places) → at < length bytes → IsSettled (at + 1) bytes more → SameByte most bytes (bytes ++ more) at p
same_byte most bytes more at p within (inl below) =
    let byte : get_or (bytes ++ more) at 0 ≡ get_or bytes at 0 = get_or-append bytes more 0 at within in
    let low : at < settled bytes = omega arith in (
      omega (arith, length-append bytes more),
      byte,
      ap (λ (b : ℕ). class_within most b (begins_with 10 (drop (at + 1) (bytes ++ more))) (at - p.start + 1)) byte
          ∙ next_class most (get_or bytes at 0) (at - p.start + 1) (begins_with 10 (drop (at + 1) (bytes ++ more))) (begins_with 10 (drop (at + 1) bytes)) (next_same bytes more at low),
    )
same_byte most bytes more at p within (inr none) =
    subst (λ (text : List ℕ). SameByte most bytes text at p) (sym (ap (λ (xs : List ℕ). bytes ++ xs) none ∙ append-nil bytes)) (within, refl, refl)

earlier : (low high : ℕ) (bytes more : List ℕ) → low ≤ high → IsSettled high bytes more → IsSettled low bytes more
earlier low high bytes more order (inl below) = inl (omega arith)
earlier low high bytes more order (inr none) = inr none

-- before the first byte
pub blank_read : (most : ℕ) → IsRead most [] 0 no_places None
blank_read most = λ more _. (blank_sound more, blank_whole most more)

-- one byte on
pub looked_on : (most : ℕ) (bytes : List ℕ) (at : ℕ) (p q : Places) (found fault : Option LexFault) → found ≡ fault → at < length bytes → IsRead most bytes at p None → Looked most bytes at p q found
    → IsRead most bytes (at + 1) q fault
looked_on most bytes at p q found fault is within read looked = subst (λ (f : Option LexFault). IsRead most bytes (at + 1) q f) is (λ more settles.
    let before : WentOn most (bytes ++ more) at p None (lexed_within most (bytes ++ more)) = read more (earlier at (at + 1) bytes more (omega arith) settles) in
    subst (λ (whole : Lexed). WentOn most (bytes ++ more) (at + 1) q found whole) before.1 (looked (bytes ++ more) (same_byte most bytes more at p within settles) before.0))

-- behind a fault nothing more is read
pub fault_on : (most : ℕ) (bytes : List ℕ) (low high : ℕ) (p : Places) (fault : Option LexFault) → is_some fault ≡ true → low ≤ high → IsRead most bytes low p fault → IsRead most bytes high p fault
fault_on most bytes low high p None some order read = absurd cc
fault_on most bytes low high p (Some fault) some order read = λ more settles. read more (earlier low high bytes more order settles)

pub no_fault : (fault : Option LexFault) → is_some fault ≡ false → fault ≡ None
no_fault None none = refl
no_fault (Some fault) none = absurd cc

-- with nothing behind it
pub read_whole : (most : ℕ) (bytes : List ℕ) (at : ℕ) (p : Places) (found fault : Option LexFault) → found ≡ fault → IsRead most bytes at p found → WentOn most bytes at p fault (lexed_within most bytes)
read_whole most bytes at p found fault is read =
    subst (λ (f : Option LexFault). WentOn most bytes at p f (lexed_within most bytes)) is
    (subst (λ (text : List ℕ). WentOn most text at p found (lexed_within most text)) (append-nil bytes) (read [] (inr refl)))
