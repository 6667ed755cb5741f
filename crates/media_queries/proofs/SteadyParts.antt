-- The smallest readers look at no byte before they need it: single bytes, words, gaps, digits, and what is made of them
-- by a choice.
use Rattle.std.proofs.Common.{◌≡◌, ℕ, zero, suc, ◌+◌, ◌*◌, ◌<◌, ◌≤◌, Bool, true, false, cond, ◌&&◌, ◌==◌, nat_le, List, [], ◌∷◌, ◌++◌, length, refl, ap, sym, ◌∙◌, arith, subst, length-append, inl, inr}
use Rattle.std.specs.Prelude.{Result, Ok, Err}
use Rattle.std.proofs.lemmas.Grind.{common_steps}
use Rattle.word_model.specs.Names.{is_digit}
use Rattle.word_model.specs.Numbers.{begins_with}
use Rattle.script_model.specs.Readers.{◌>>=◌}
use Rattle.script_model.specs.Media.{byte_at, word_at, is_blank, skip, gap_at, says, with_digit, is_digit_under, digit_at, digits_at, hundredths_at}
use Rattle.media_queries.proofs.Readings.{OnValue}
use Rattle.media_queries.proofs.DigitTexts.{NoDigit}
use Rattle.media_queries.proofs.ShortLengths.{skip_leaves}
use Rattle.media_queries.proofs.Steady.{Shape, left, on, Gives, At, Steady, Any, same_reader, Split, whole, zero_or_more, then_steady}

-- A choice by the first byte. At the text's end the second reader goes on.

either_at : {X : Type 0} → (shape : Shape X) (ends : List ℕ → Type 0) (test : Bool) (one two : List ℕ → Result X ℕ) (text : List ℕ)
    → At shape ends one text → At shape ends two text → At shape ends (λ t. cond test (one t) (two t)) text
either_at shape ends true one two text a b = record { within = a.within; stays = a.stays; later = a.later; completes = a.completes }
either_at shape ends false one two text a b = record { within = b.within; stays = b.stays; later = b.later; completes = b.completes }

either_within : {X : Type 0} → (shape : Shape X) (test : Bool) (one two : Result X ℕ) (n : ℕ) → left shape one ≤ n → left shape two ≤ n → left shape (cond test one two) ≤ n
either_within shape true one two n h g = h
either_within shape false one two n h g = g

module _ {X : Type 0} (shape : Shape X) (ends : List ℕ → Type 0) (byte : ℕ) (sample other : List ℕ) (one two : List ℕ → Result X ℕ)
    (first : Steady shape ends other one) (second : Steady shape ends sample two) (apart : (tail : List ℕ) → ends tail → begins_with byte (sample ++ tail) ≡ false) where
  chosen : List ℕ → Result X ℕ
  chosen text = cond (begins_with byte text) (one text) (two text)

  chosen_sample : (tail : List ℕ) → ends tail → Gives shape tail (chosen (sample ++ tail))
  unfolding chosen
  chosen_sample tail h =
      subst (λ test. Gives shape tail (cond test (one (sample ++ tail)) (two (sample ++ tail)))) (sym (apart tail h)) (second.starts tail h)

  chosen_at : (text : List ℕ) → At shape ends chosen text
  unfolding chosen begins_with
  chosen_at [] =
      let none : left shape (two []) ≡ 0 = let h : left shape (two []) ≤ 0 = (second.at []).within in omega (arith, h) in
      record {
        within = (second.at []).within;
        stays = λ more some. absurd (omega (arith, some, none));
        later = λ more e. either_within shape (begins_with byte more) (one more) (two more) (length more) (first.at more).within (second.at more).within;
        completes = λ e. (sample, λ tail h. chosen_sample tail h);
      }
  chosen_at (c ∷ cs) =
      let found = either_at shape ends (c == byte) one two (c ∷ cs) (first.at (c ∷ cs)) (second.at (c ∷ cs)) in
      record { within = found.within; stays = found.stays; later = found.later; completes = found.completes }

  pub choice_steady : Steady shape ends sample (λ text. cond (begins_with byte text) (one text) (two text))
  unfolding chosen
  choice_steady = record { starts = chosen_sample; at = chosen_at }

-- Texts, and values with the text behind them.

abbrev pub texts : Split (List ℕ)
texts = record { rest = λ text. text; put = λ text rest. rest; again = λ text. refl }

abbrev pub values : {A : Type 0} → Split (A × List ℕ)
values = record { rest = λ read. read.1; put = λ read rest. (read.0, rest); again = λ read. refl }

nothing_left : (text more : List ℕ) → length text ≡ 0 → length (text ++ more) ≤ length more
nothing_left [] more e = omega arith
nothing_left (b ∷ bs) more e = absurd (omega arith)

no_text : (text tail : List ℕ) → length text ≡ 0 → text ++ ([] ++ tail) ≡ tail
no_text [] tail e = refl
no_text (b ∷ bs) tail e = absurd (omega arith)

-- a reader that takes nothing
pub text_steady : (ends : List ℕ → Type 0) → Steady (whole texts) ends [] (λ text. Ok text)
text_steady ends = record {
  starts = λ tail h. refl;
  at = λ text. record {
    within = omega arith;
    stays = λ more some. refl;
    later = λ more none. nothing_left text more none;
    completes = λ none. ([], λ tail h. no_text text tail none);
  };
}

pub value_steady : {A : Type 0} → (ends : List ℕ → Type 0) (value : A) → Steady (whole (values {A = A})) ends [] (λ text. Ok (value, text))
value_steady ends value = record {
  starts = λ tail h. refl;
  at = λ text. record {
    within = omega arith;
    stays = λ more some. refl;
    later = λ more none. nothing_left text more none;
    completes = λ none. ([], λ tail h. no_text text tail none);
  };
}

-- Single bytes.

-- one byte that passes a test, and what it stands for
abbrev pub pass_at : {X : Type 0} → (ℕ → Bool) → (ℕ → List ℕ → X) → List ℕ → Result X ℕ
pass_at test value [] = Err 0
pass_at test value (b ∷ bs) = cond (test b) (Ok (value b bs)) (Err (length (b ∷ bs)))

module _ {X : Type 0} (split : Split X) (test : ℕ → Bool) (value : ℕ → List ℕ → X) (byte : ℕ) (passes : test byte ≡ true)
    (behind : (b : ℕ) (bs : List ℕ) → split.rest (value b bs) ≡ bs) (puts : (b : ℕ) (bs more : List ℕ) → split.put (value b bs) more ≡ value b more) where
  seen : Bool → ℕ → List ℕ → Result X ℕ
  seen pass b bs = cond pass (Ok (value b bs)) (Err (length (b ∷ bs)))

  seen_within : (pass : Bool) (b : ℕ) (bs : List ℕ) → left (whole split) (seen pass b bs) ≤ suc (length bs)
  unfolding seen
  seen_within true b bs = let e = ap length (behind b bs) in omega (arith, e)
  seen_within false b bs = omega arith

  seen_stays : (pass : Bool) (b : ℕ) (bs more : List ℕ) → seen pass b (bs ++ more) ≡ on (whole split) more (seen pass b bs)
  unfolding seen
  seen_stays true b bs more = ap (λ (x : X). Ok x) (sym (ap (λ rest. split.put (value b bs) (rest ++ more)) (behind b bs) ∙ puts b bs (bs ++ more)))
  seen_stays false b bs more =
      let count : suc (length (bs ++ more)) ≡ suc (length bs) + length more = omega (arith, length-append bs more) in
      ap (λ (n : ℕ). Err n) count

  seen_later : (pass : Bool) (b : ℕ) (bs more : List ℕ) → left (whole split) (seen pass b bs) ≡ 0 → left (whole split) (seen pass b (bs ++ more)) ≤ length more
  unfolding seen
  seen_later true b bs more e =
      let none : length bs ≡ 0 = sym (ap length (behind b bs)) ∙ e in
      let h : length (bs ++ more) ≤ length more = nothing_left bs more none in
      let f = ap length (behind b (bs ++ more)) in
      omega (arith, h, f)
  seen_later false b bs more e = absurd (omega arith)

  seen_gives : (pass : Bool) (b : ℕ) (bs tail : List ℕ) → left (whole split) (seen pass b bs) ≡ 0 → Gives (whole split) tail (seen pass b (bs ++ ([] ++ tail)))
  unfolding seen
  seen_gives true b bs tail e =
      let none : length bs ≡ 0 = sym (ap length (behind b bs)) ∙ e in
      behind b (bs ++ ([] ++ tail)) ∙ no_text bs tail none
  seen_gives false b bs tail e = absurd (omega arith)

  pass_sample : (tail : List ℕ) → Gives (whole split) tail (pass_at test value (byte ∷ tail))
  pass_sample tail = subst (λ t. Gives (whole split) tail (cond t (Ok (value byte tail)) (Err (length (byte ∷ tail))))) (sym passes) (behind byte tail)

  pass_within : (text : List ℕ) → left (whole split) (pass_at test value text) ≤ length text
  unfolding seen
  pass_within [] = omega arith
  pass_within (b ∷ bs) = seen_within (test b) b bs

  pass_read_at : (text : List ℕ) → At (whole split) Any (pass_at test value) text
  unfolding seen
  pass_read_at [] = record {
    within = omega arith;
    stays = λ more some. absurd (omega (arith, some));
    later = λ more none. pass_within more;
    completes = λ none. (byte ∷ [], λ tail h. pass_sample tail);
  }
  pass_read_at (b ∷ bs) = record {
    within = seen_within (test b) b bs;
    stays = λ more some. seen_stays (test b) b bs more;
    later = λ more none. seen_later (test b) b bs more none;
    completes = λ none. ([], λ tail h. seen_gives (test b) b bs tail none);
  }

  pub pass_steady : Steady (whole split) Any (byte ∷ []) (pass_at test value)
  pass_steady = record { starts = λ tail h. pass_sample tail; at = pass_read_at }

same_byte : (byte : ℕ) → (byte == byte) ≡ true
same_byte byte = grind (arith, common_steps)

byte_is : (byte : ℕ) (text : List ℕ) → pass_at (λ b. b == byte) (λ b bs. bs) text ≡ byte_at byte text
unfolding byte_at
byte_is byte [] = refl
byte_is byte (b ∷ bs) = refl

pub byte_steady : (byte : ℕ) → Steady (whole texts) Any (byte ∷ []) (byte_at byte)
byte_steady byte =
    same_reader (whole texts) Any (byte ∷ []) (pass_at (λ b. b == byte) (λ b bs. bs)) (byte_at byte) (byte_is byte)
    (pass_steady texts (λ b. b == byte) (λ b bs. bs) byte (same_byte byte) (λ b bs. refl) (λ b bs more. refl))

-- each text is free of a condition
abbrev pub Free : {X : Type 0} → X → Type 0
Free x = Unit {0}

pub free_on : {X : Type 0} → (read : Result X ℕ) → OnValue Free read
free_on (Ok x) = tt
free_on (Err k) = tt

pub word_steady : (word : List ℕ) → Steady (whole texts) Any word (word_at word)
unfolding word_at
word_steady [] = text_steady Any
word_steady (w ∷ ws) =
    then_steady texts (whole texts) Free Any ws (word_at ws) (λ x free. word_steady ws)
    Any (w ∷ []) (byte_at w) (byte_steady w) (λ text. free_on (byte_at w text)) (λ tail h. tt)

pub says_steady : {A : Type 0} → (ends : List ℕ → Type 0) (word : List ℕ) (value : A) → Steady (whole (values {A = A})) ends (word ++ []) (says word value)
unfolding says
says_steady {A} ends word value =
    then_steady texts (whole (values {A = A})) Free ends [] (λ rest. Ok (value, rest)) (λ x free. value_steady ends value)
    Any word (word_at word) (word_steady word) (λ text. free_on (word_at word text)) (λ tail h. tt)

-- Gaps.

-- no blank stands first
abbrev pub NoBlank : List ℕ → Type 0
NoBlank tail = skip tail ≡ tail

pub skip_stays : (text more : List ℕ) → 0 < length (skip text) → skip (text ++ more) ≡ skip text ++ more
unfolding skip
skip_stays [] more some = absurd (omega arith)
skip_stays (b ∷ bs) more some =
    elim (is_blank b) as (λ blank. 0 < length (cond blank (skip bs) (b ∷ bs)) → cond blank (skip (bs ++ more)) (b ∷ (bs ++ more)) ≡ cond blank (skip bs) (b ∷ bs) ++ more) [
      | true ↦ λ h. skip_stays bs more h
      | false ↦ λ h. refl
    ] some

pub skip_through : (text more : List ℕ) → length (skip text) ≡ 0 → skip (text ++ more) ≡ skip more
unfolding skip
skip_through [] more none = refl
skip_through (b ∷ bs) more none =
    elim (is_blank b) as (λ blank. length (cond blank (skip bs) (b ∷ bs)) ≡ 0 → cond blank (skip (bs ++ more)) (b ∷ (bs ++ more)) ≡ skip more) [
      | true ↦ λ h. skip_through bs more h
      | false ↦ λ h. absurd (omega (arith, h))
    ] none

pub skip_later : (text more : List ℕ) → length (skip text) ≡ 0 → length (skip (text ++ more)) ≤ length more
skip_later text more none = let e = ap length (skip_through text more none) in omega (arith, e, skip_leaves more)

pub skip_steady : Steady (whole texts) NoBlank [] (λ text. Ok (skip text))
skip_steady = record {
  starts = λ tail h. h;
  at = λ text. record {
    within = skip_leaves text;
    stays = λ more some. ap (λ (t : List ℕ). Ok t) (skip_stays text more some);
    later = λ more none. skip_later text more none;
    completes = λ none. ([], λ tail h. skip_through text tail none ∙ h);
  };
}

abbrev passed : List ℕ → Result (List ℕ) ℕ
passed bs = Ok bs

abbrev stopped : ℕ → Result (List ℕ) ℕ
stopped n = Err n

gap_cond : (blank : Bool) (bs : List ℕ) (n : ℕ) → (cond blank (passed bs) (stopped n) >>= λ rest. Ok (skip rest)) ≡ cond blank (passed (skip bs)) (stopped n)
gap_cond true bs n = refl
gap_cond false bs n = refl

gap_is : (text : List ℕ) → (pass_at is_blank (λ b bs. bs) text >>= λ rest. Ok (skip rest)) ≡ gap_at text
unfolding gap_at
gap_is [] = refl
gap_is (b ∷ bs) = gap_cond (is_blank b) bs (length (b ∷ bs))

pub gap_steady : Steady (whole texts) NoBlank (32 ∷ []) gap_at
gap_steady =
    same_reader (whole texts) NoBlank (32 ∷ []) (λ text. pass_at is_blank (λ b bs. bs) text >>= λ rest. Ok (skip rest)) gap_at gap_is
    (then_steady texts (whole texts) Free NoBlank [] (λ rest. Ok (skip rest)) (λ x free. skip_steady)
    Any (32 ∷ []) (pass_at is_blank (λ b bs. bs)) (pass_steady texts is_blank (λ b bs. bs) 32 refl (λ b bs. refl) (λ b bs more. refl)) (λ text. free_on (pass_at is_blank (λ b bs. bs) text)) (λ tail h. tt))

-- Digits.

digit_is : (most value : ℕ) (text : List ℕ) → pass_at (is_digit_under most value) (λ b bs. (with_digit value b, bs)) text ≡ digit_at most value text
unfolding digit_at
digit_is most value [] = refl
digit_is most value (b ∷ bs) = refl

pub digit_steady : (most value : ℕ) → is_digit_under most value 48 ≡ true → Steady (whole (values {A = ℕ})) Any (48 ∷ []) (digit_at most value)
digit_steady most value passes =
    same_reader (whole (values {A = ℕ})) Any (48 ∷ []) (pass_at (is_digit_under most value) (λ b bs. (with_digit value b, bs))) (digit_at most value) (digit_is most value)
    (pass_steady (values {A = ℕ}) (is_digit_under most value) (λ b bs. (with_digit value b, bs)) 48 passes (λ b bs. refl) (λ b bs more. refl))

no_digit_under : (most value : ℕ) (b : ℕ) → is_digit b ≡ false → is_digit_under most value b ≡ false
no_digit_under most value b none = ap (λ t. t && nat_le (with_digit value b) most) none

abbrev numbers : Shape (ℕ × List ℕ)
numbers = whole (values {A = ℕ})

digits_within : (places most value : ℕ) (text : List ℕ) → length (digits_at places most value text).1 ≤ length text
unfolding digits_at
digits_within zero most value text = omega arith
digits_within (suc places) most value [] = omega arith
digits_within (suc places) most value (b ∷ bs) =
    elim (is_digit_under most value b) as (λ test. length (cond test (digits_at places most (with_digit value b) bs) (value, b ∷ bs)).1 ≤ suc (length bs)) [
      | true ↦ (let h : length (digits_at places most (with_digit value b) bs).1 ≤ length bs = digits_within places most (with_digit value b) bs in omega arith)
      | false ↦ omega arith
    ]

abbrev behind : ℕ × List ℕ → List ℕ → ℕ × List ℕ
behind read more = (read.0, read.1 ++ more)

digits_stay : (places most value : ℕ) (text more : List ℕ) → 0 < length (digits_at places most value text).1
    → digits_at places most value (text ++ more) ≡ behind (digits_at places most value text) more
unfolding digits_at
digits_stay zero most value text more some = refl
digits_stay (suc places) most value [] more some = absurd (omega arith)
digits_stay (suc places) most value (b ∷ bs) more some =
    elim (is_digit_under most value b) as (λ test. 0 < length (cond test (digits_at places most (with_digit value b) bs) (value, b ∷ bs)).1
    → cond test (digits_at places most (with_digit value b) (bs ++ more)) (value, b ∷ (bs ++ more)) ≡ behind (cond test (digits_at places most (with_digit value b) bs) (value, b ∷ bs)) more) [
      | true ↦ λ h. digits_stay places most (with_digit value b) bs more h
      | false ↦ λ h. refl
    ] some

digits_later : (places most value : ℕ) (text more : List ℕ) → length (digits_at places most value text).1 ≡ 0
    → length (digits_at places most value (text ++ more)).1 ≤ length more
unfolding digits_at
digits_later zero most value text more none = nothing_left text more none
digits_later (suc places) most value [] more none = digits_within (suc places) most value more
digits_later (suc places) most value (b ∷ bs) more none =
    elim (is_digit_under most value b) as (λ test. length (cond test (digits_at places most (with_digit value b) bs) (value, b ∷ bs)).1 ≡ 0
    → length (cond test (digits_at places most (with_digit value b) (bs ++ more)) (value, b ∷ (bs ++ more))).1 ≤ length more) [
      | true ↦ λ h. digits_later places most (with_digit value b) bs more h
      | false ↦ λ h. absurd (omega (arith, h))
    ] none

digits_stop : (places most value : ℕ) (tail : List ℕ) → NoDigit tail → (digits_at places most value tail).1 ≡ tail
unfolding digits_at
digits_stop zero most value tail none = refl
digits_stop (suc places) most value [] none = refl
digits_stop (suc places) most value (b ∷ bs) none =
    ap (λ test. (cond test (digits_at places most (with_digit value b) bs) (value, b ∷ bs)).1) (no_digit_under most value b none)

digits_end : (places most value : ℕ) (text tail : List ℕ) → length (digits_at places most value text).1 ≡ 0 → NoDigit tail
    → (digits_at places most value (text ++ tail)).1 ≡ tail
unfolding digits_at
digits_end zero most value text tail empty none = no_text text tail empty
digits_end (suc places) most value [] tail empty none = digits_stop (suc places) most value tail none
digits_end (suc places) most value (b ∷ bs) tail empty none =
    elim (is_digit_under most value b) as (λ test. length (cond test (digits_at places most (with_digit value b) bs) (value, b ∷ bs)).1 ≡ 0
    → (cond test (digits_at places most (with_digit value b) (bs ++ tail)) (value, b ∷ (bs ++ tail))).1 ≡ tail) [
      | true ↦ λ h. digits_end places most (with_digit value b) bs tail h none
      | false ↦ λ h. absurd (omega (arith, h))
    ] empty

pub digits_steady : (places most value : ℕ) → Steady numbers NoDigit [] (λ text. Ok (digits_at places most value text))
digits_steady places most value = record {
  starts = λ tail h. digits_stop places most value tail h;
  at = λ text. record {
    within = digits_within places most value text;
    stays = λ more some. ap (λ (read : ℕ × List ℕ). Ok read) (digits_stay places most value text more some);
    later = λ more none. digits_later places most value text more none;
    completes = λ none. ([], λ tail h. digits_end places most value text tail none h);
  };
}

-- tenths, and a digit that may follow
abbrev picked : Bool → ℕ × List ℕ → ℕ × List ℕ → ℕ × List ℕ
picked test one two = cond test one two

hundredths_stop : (tenths : ℕ) (tail : List ℕ) → NoDigit tail → (hundredths_at tenths tail).1 ≡ tail
unfolding hundredths_at
hundredths_stop tenths [] none = refl
hundredths_stop tenths (b ∷ bs) none = ap (λ test. (picked test (with_digit tenths b, bs) (tenths * 10, b ∷ bs)).1) (no_digit_under 100000000 tenths b none)

hundredths_within : (tenths : ℕ) (text : List ℕ) → length (hundredths_at tenths text).1 ≤ length text
unfolding hundredths_at
hundredths_within tenths [] = omega arith
hundredths_within tenths (b ∷ bs) =
    elim (is_digit_under 100000000 tenths b) as (λ test. length (picked test (with_digit tenths b, bs) (tenths * 10, b ∷ bs)).1 ≤ suc (length bs)) [ true ↦ omega arith | false ↦ omega arith ]

abbrev shown : ℕ × List ℕ → Result (ℕ × List ℕ) ℕ
shown read = Ok read

hundredths_read_at : (tenths : ℕ) (text : List ℕ) → At numbers NoDigit (λ t. Ok (hundredths_at tenths t)) text
unfolding hundredths_at
hundredths_read_at tenths [] = record {
  within = omega arith;
  stays = λ more some. absurd (omega (arith, some));
  later = λ more none. hundredths_within tenths more;
  completes = λ none. ([], λ tail h. hundredths_stop tenths tail h);
}
hundredths_read_at tenths (b ∷ bs) = record {
  within = hundredths_within tenths (b ∷ bs);
  stays = λ more some. elim (is_digit_under 100000000 tenths b) as (λ test.
      shown (picked test (with_digit tenths b, bs ++ more) (tenths * 10, b ∷ (bs ++ more))) ≡ shown (behind (picked test (with_digit tenths b, bs) (tenths * 10, b ∷ bs)) more)) [ true ↦ refl | false ↦ refl ];
  later = λ more none. elim (is_digit_under 100000000 tenths b) as (λ test. length (picked test (with_digit tenths b, bs) (tenths * 10, b ∷ bs)).1 ≡ 0
      → length (picked test (with_digit tenths b, bs ++ more) (tenths * 10, b ∷ (bs ++ more))).1 ≤ length more) [ true ↦ λ h. nothing_left bs more h | false ↦ λ h. absurd (omega (arith, h)) ] none;
  completes = λ none. (
    [],
    λ tail h. elim (is_digit_under 100000000 tenths b) as (λ test. length (picked test (with_digit tenths b, bs) (tenths * 10, b ∷ bs)).1 ≡ 0
        → (picked test (with_digit tenths b, bs ++ tail) (tenths * 10, b ∷ (bs ++ tail))).1 ≡ tail) [ true ↦ λ e. no_text bs tail e | false ↦ λ e. absurd (omega (arith, e)) ] none,
  );
}

pub hundredths_steady : (tenths : ℕ) → Steady numbers NoDigit [] (λ text. Ok (hundredths_at tenths text))
hundredths_steady tenths = record { starts = hundredths_stop tenths; at = hundredths_read_at tenths }

-- Values that leave blanks: only the bytes behind these count.

abbrev pub past_blanks : {A : Type 0} → Shape (A × List ℕ)
past_blanks = record { rest = λ read. skip read.1; add = λ read more. (read.0, read.1 ++ more) }

-- a comma stands first
abbrev pub Comma : List ℕ → Type 0
Comma tail = begins_with 44 tail ≡ true

pub comma_no_blank : (tail : List ℕ) → Comma tail → NoBlank tail
unfolding begins_with skip
comma_no_blank [] comma = refl
comma_no_blank (b ∷ bs) comma = grind (arith, common_steps)

module _ {A : Type 0} (sample : List ℕ) (read : List ℕ → Result (A × List ℕ) ℕ) (steady : Steady (whole (values {A = A})) Any sample read) where
  less : (answer : Result (A × List ℕ) ℕ) → left (past_blanks {A = A}) answer ≤ left (whole (values {A = A})) answer
  less (Ok x) = skip_leaves x.1
  less (Err k) = omega arith

  more_than : (answer : Result (A × List ℕ) ℕ) → 0 < left (past_blanks {A = A}) answer → 0 < left (whole (values {A = A})) answer
  more_than (Ok x) some = omega (arith, skip_leaves x.1, some)
  more_than (Err k) some = some

  blank_later : (answer longer : Result (A × List ℕ) ℕ) (more : List ℕ) → 0 < left (whole (values {A = A})) answer → longer ≡ on (whole (values {A = A})) more answer
      → left (past_blanks {A = A}) answer ≡ 0 → left (past_blanks {A = A}) longer ≤ length more
  blank_later (Ok x) longer more some e none = subst (λ r. left (past_blanks {A = A}) r ≤ length more) (sym e) (skip_later x.1 more none)
  blank_later (Err k) longer more some e none = absurd (omega (arith, some, none))

  blank_gives : (answer longer : Result (A × List ℕ) ℕ) (tail : List ℕ) → 0 < left (whole (values {A = A})) answer → longer ≡ on (whole (values {A = A})) tail answer
      → left (past_blanks {A = A}) answer ≡ 0 → Comma tail → Gives (past_blanks {A = A}) tail longer
  blank_gives (Ok x) longer tail some e none comma = subst (Gives (past_blanks {A = A}) tail) (sym e) (skip_through x.1 tail none ∙ comma_no_blank tail comma)
  blank_gives (Err k) longer tail some e none comma = absurd (omega (arith, some, none))

  just_gives : (answer : Result (A × List ℕ) ℕ) (tail : List ℕ) → Gives (whole (values {A = A})) tail answer → Comma tail → Gives (past_blanks {A = A}) tail answer
  just_gives (Ok x) tail e comma = ap skip e ∙ comma_no_blank tail comma
  just_gives (Err k) tail e comma = absurd e

  pub past_steady : Steady (past_blanks {A = A}) Comma sample read
  past_steady = record {
    starts = λ tail comma. just_gives (read (sample ++ tail)) tail (steady.starts tail tt) comma;
    at = λ text. record {
      within = omega (arith, less (read text), (steady.at text).within);
      stays = λ more some. (steady.at text).stays more (more_than (read text) some);
      later = λ more none. elim (zero_or_more (left (whole (values {A = A})) (read text))) [
        | inl empty ↦ omega (arith, less (read (text ++ more)), (steady.at text).later more empty)
        | inr some ↦ blank_later (read text) (read (text ++ more)) more some ((steady.at text).stays more some) none
      ];
      completes = λ none. elim (zero_or_more (left (whole (values {A = A})) (read text))) [
        | inl empty ↦ (let found = (steady.at text).completes empty in
            (found.0, λ tail comma. just_gives (read (text ++ (found.0 ++ tail))) tail (found.1 tail tt) comma))
        | inr some ↦ ([], λ tail comma. blank_gives (read text) (read (text ++ ([] ++ tail))) tail some ((steady.at text).stays tail some) none comma)
      ];
    };
  }

-- another value of the same bytes
module _ {A B : Type 0} (ends : List ℕ → Type 0) (sample : List ℕ) (read : List ℕ → Result (A × List ℕ) ℕ) (value : A → B) (steady : Steady (past_blanks {A = A}) ends sample read) where
  turned : Result (A × List ℕ) ℕ → Result (B × List ℕ) ℕ
  turned answer = answer >>= λ x. Ok (value x.0, x.1)

  same_left : (answer : Result (A × List ℕ) ℕ) → left (past_blanks {A = A}) answer ≡ left (past_blanks {A = B}) (turned answer)
  unfolding turned
  same_left (Ok x) = refl
  same_left (Err k) = refl

  same_on : (answer : Result (A × List ℕ) ℕ) (more : List ℕ) → turned (on (past_blanks {A = A}) more answer) ≡ on (past_blanks {A = B}) more (turned answer)
  unfolding turned
  same_on (Ok x) more = refl
  same_on (Err k) more = refl

  same_gives : (answer : Result (A × List ℕ) ℕ) (tail : List ℕ) → Gives (past_blanks {A = A}) tail answer → Gives (past_blanks {A = B}) tail (turned answer)
  unfolding turned
  same_gives (Ok x) tail e = e
  same_gives (Err k) tail e = e

  pub turned_steady : Steady (past_blanks {A = B}) ends sample (λ text. read text >>= λ x. Ok (value x.0, x.1))
  unfolding turned
  turned_steady = record {
    starts = λ tail h. same_gives (read (sample ++ tail)) tail (steady.starts tail h);
    at = λ text. record {
      within = subst (λ n. n ≤ length text) (same_left (read text)) (steady.at text).within;
      stays = λ more some. ap turned ((steady.at text).stays more (subst (λ n. 0 < n) (sym (same_left (read text))) some)) ∙ same_on (read text) more;
      later = λ more none. subst (λ n. n ≤ length more) (same_left (read (text ++ more))) ((steady.at text).later more (same_left (read text) ∙ none));
      completes = λ none. (let found = (steady.at text).completes (same_left (read text) ∙ none) in
          (found.0, λ tail h. same_gives (read (text ++ (found.0 ++ tail))) tail (found.1 tail h)));
    };
  }
