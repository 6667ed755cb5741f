-- Readers that look at no byte before they need it. What such a reader decided stays decided when bytes are added to the
-- text, and where it needs more, bytes can be added with which it gives a value.
use Rattle.std.proofs.Common.{◌≡◌, ℕ, zero, suc, ◌+◌, ◌<◌, ◌≤◌, List, ◌++◌, length, refl, ap, sym, ◌∙◌, arith, subst, append_assoc, ◌⊎◌, inl, inr}
use Rattle.std.specs.Prelude.{Result, Ok, Err}
use Rattle.script_model.specs.Readers.{◌>>=◌}
use Rattle.media_queries.proofs.Readings.{OnValue}

-- which bytes are left with a value, and the same value with more bytes behind them
pub record Shape (X : Type 0) : Type 0 where
  pub rest : X → List ℕ
  pub add : X → List ℕ → X

-- how many bytes are left
abbrev pub left : {X : Type 0} → Shape X → Result X ℕ → ℕ
left shape (Ok x) = length (shape.rest x)
left shape (Err k) = k

-- the same answer with more bytes behind the text
abbrev pub on : {X : Type 0} → Shape X → List ℕ → Result X ℕ → Result X ℕ
on shape more (Ok x) = Ok (shape.add x more)
on shape more (Err k) = Err (k + length more)

-- a value that leaves just these bytes
abbrev pub Gives : {X : Type 0} → Shape X → List ℕ → Result X ℕ → Type 0
Gives shape tail (Ok x) = shape.rest x ≡ tail
Gives shape tail (Err k) = ⊥

-- at a text: `ends` are the texts that may follow what is read
pub record At {X : Type 0} (shape : Shape X) (ends : List ℕ → Type 0) (read : List ℕ → Result X ℕ) (text : List ℕ) : Type 0 where
  pub within : left shape (read text) ≤ length text
  pub stays : (more : List ℕ) → 0 < left shape (read text) → read (text ++ more) ≡ on shape more (read text)
  pub later : (more : List ℕ) → left shape (read text) ≡ 0 → left shape (read (text ++ more)) ≤ length more
  pub completes : left shape (read text) ≡ 0
      → (more : List ℕ) × ((tail : List ℕ) → ends tail → Gives shape tail (read (text ++ (more ++ tail))))

-- at every text, with a sample that is read
pub record Steady {X : Type 0} (shape : Shape X) (ends : List ℕ → Type 0) (sample : List ℕ) (read : List ℕ → Result X ℕ) : Type 0 where
  pub starts : (tail : List ℕ) → ends tail → Gives shape tail (read (sample ++ tail))
  pub at : (text : List ℕ) → At shape ends read text

abbrev pub Any : List ℕ → Type 0
Any tail = Unit {0}

-- the same for a reader that answers the same
pub same_reader : {X : Type 0} → (shape : Shape X) (ends : List ℕ → Type 0) (sample : List ℕ) (read again : List ℕ → Result X ℕ)
    → ((text : List ℕ) → read text ≡ again text) → Steady shape ends sample read → Steady shape ends sample again
same_reader shape ends sample read again each steady = subst (Steady shape ends sample) (λ i text. each text i) steady

-- fewer texts may follow
pub fewer_ends : {X : Type 0} → (shape : Shape X) (ends fewer : List ℕ → Type 0) (sample : List ℕ) (read : List ℕ → Result X ℕ)
    → ((tail : List ℕ) → fewer tail → ends tail) → Steady shape ends sample read → Steady shape fewer sample read
fewer_ends shape ends fewer sample read each steady = record {
  starts = λ tail h. steady.starts tail (each tail h);
  at = λ text. record {
    within = (steady.at text).within;
    stays = (steady.at text).stays;
    later = (steady.at text).later;
    completes = λ e. let found = (steady.at text).completes e in (found.0, λ tail h. found.1 tail (each tail h));
  };
}

-- Readers in a row.

-- a value from which the bytes that are left can be taken, and put back
pub record Split (X : Type 0) : Type 0 where
  pub rest : X → List ℕ
  pub put : X → List ℕ → X
  pub again : (x : X) → put x (rest x) ≡ x

abbrev pub whole : {X : Type 0} → Split X → Shape X
whole split = record { rest = split.rest; add = λ x more. split.put x (split.rest x ++ more) }

pub zero_or_more : (n : ℕ) → (n ≡ 0) ⊎ (0 < n)
zero_or_more zero = inl refl
zero_or_more (suc n) = inr (omega arith)

module _ {X Y : Type 0} (split : Split X) (shape : Shape Y) (P : X → Type 0) (ends : List ℕ → Type 0) (sample : List ℕ) (second : X → Result Y ℕ)
    (after : (x : X) → P x → Steady shape ends sample (λ text. second (split.put x text))) where
  within_by : (read : Result X ℕ) (n : ℕ) → OnValue P read → left (whole split) read ≤ n → left shape (read >>= second) ≤ n
  within_by (Ok x) n p h =
      let inner : left shape (second (split.put x (split.rest x))) ≤ length (split.rest x) = ((after x p).at (split.rest x)).within in
      let same : left shape (second (split.put x (split.rest x))) ≡ left shape (second x) = ap (λ y. left shape (second y)) (split.again x) in
      omega (arith, inner, same, h)
  within_by (Err k) n p h = h

  inner_within : (x : X) → P x → left shape (second x) ≤ length (split.rest x)
  inner_within x p = within_by (Ok x) (length (split.rest x)) p (omega arith)

  stays_by : (read longer : Result X ℕ) (more : List ℕ) → OnValue P read → (0 < left (whole split) read → longer ≡ on (whole split) more read)
      → 0 < left shape (read >>= second) → (longer >>= second) ≡ on shape more (read >>= second)
  stays_by (Err k) longer more p h some = ap (λ (r : Result X ℕ). r >>= second) (h some)
  stays_by (Ok x) longer more p h some =
      let inner : left shape (second x) ≤ length (split.rest x) = inner_within x p in
      let longer_is : longer ≡ Ok (split.put x (split.rest x ++ more)) = h (omega (arith, inner, some)) in
      let same : second (split.put x (split.rest x)) ≡ second x = ap second (split.again x) in
      ap (λ (r : Result X ℕ). r >>= second) longer_is
      ∙ ((after x p).at (split.rest x)).stays more (subst (λ r. 0 < left shape r) (sym same) some)
      ∙ ap (on shape more) same

  later_by : (read longer : Result X ℕ) (more : List ℕ) → OnValue P read → OnValue P longer
      → (0 < left (whole split) read → longer ≡ on (whole split) more read) → (left (whole split) read ≡ 0 → left (whole split) longer ≤ length more)
      → left shape (read >>= second) ≡ 0 → left shape (longer >>= second) ≤ length more
  later_by (Err k) longer more p q h g none = within_by longer (length more) q (g none)
  later_by (Ok x) longer more p q h g none =
      let same : second (split.put x (split.rest x)) ≡ second x = ap second (split.again x) in
      elim (zero_or_more (length (split.rest x))) [
        | inl empty ↦ within_by longer (length more) q (g empty)
        | inr some ↦ subst (λ (r : Result X ℕ). left shape (r >>= second) ≤ length more) (sym (h some))
            (((after x p).at (split.rest x)).later more (ap (left shape) same ∙ none))
      ]

  gives_by : (read : Result X ℕ) (tail : List ℕ) → OnValue P read → ends tail → Gives (whole split) (sample ++ tail) read → Gives shape tail (read >>= second)
  gives_by (Err k) tail p e h = absurd h
  gives_by (Ok x) tail p e h =
      let same : split.put x (sample ++ tail) ≡ x = ap (split.put x) (sym h) ∙ split.again x in
      subst (λ y. Gives shape tail (second y)) same ((after x p).starts tail e)

  goes_by : (read longer : Result X ℕ) (more tail : List ℕ) → longer ≡ on (whole split) more read
      → ((x : X) → read ≡ Ok x → Gives shape tail (second (split.put x (split.rest x ++ more)))) → 0 < left (whole split) read → left shape (read >>= second) ≡ 0
      → Gives shape tail (longer >>= second)
  goes_by (Err k) longer more tail e h some none = absurd (omega (arith, some, none))
  goes_by (Ok x) longer more tail e h some none = subst (λ (r : Result X ℕ). Gives shape tail (r >>= second)) (sym e) (h x refl)

  found_after : (read : Result X ℕ) → OnValue P read → 0 < left (whole split) read → left shape (read >>= second) ≡ 0
      → (more : List ℕ) × ((x : X) → read ≡ Ok x → (tail : List ℕ) → ends tail → Gives shape tail (second (split.put x (split.rest x ++ (more ++ tail)))))
  found_after (Err k) p some none = absurd (omega (arith, some, none))
  found_after (Ok x) p some none =
      let same : second (split.put x (split.rest x)) ≡ second x = ap second (split.again x) in
      let found = ((after x p).at (split.rest x)).completes (ap (left shape) same ∙ none) in (
        found.0,
        λ y e tail h.
            let is : x ≡ y = cc in
            subst (λ z. Gives shape tail (second (split.put z (split.rest z ++ (found.0 ++ tail))))) is (found.1 tail h),
      )

  module _ (first_ends : List ℕ → Type 0) (first_sample : List ℕ) (first : List ℕ → Result X ℕ) (steady : Steady (whole split) first_ends first_sample first)
      (values : (text : List ℕ) → OnValue P (first text)) (fits : (tail : List ℕ) → ends tail → first_ends (sample ++ tail)) where
    completes_by : (text : List ℕ) → left shape (first text >>= second) ≡ 0
        → (more : List ℕ) × ((tail : List ℕ) → ends tail → Gives shape tail (first (text ++ (more ++ tail)) >>= second))
    completes_by text none =
        elim (zero_or_more (left (whole split) (first text))) [
          | inl empty ↦
              let found = (steady.at text).completes empty in (
                found.0 ++ sample,
                λ tail h.
                    subst (λ t. Gives shape tail (first (text ++ t) >>= second)) (sym (append_assoc found.0 sample tail))
                    (gives_by (first (text ++ (found.0 ++ (sample ++ tail)))) tail (values (text ++ (found.0 ++ (sample ++ tail)))) h (found.1 (sample ++ tail) (fits tail h))),
              )
          | inr some ↦
              let found = found_after (first text) (values text) some none in (
                found.0,
                λ tail h.
                    goes_by (first text) (first (text ++ (found.0 ++ tail))) (found.0 ++ tail) tail ((steady.at text).stays (found.0 ++ tail) some) (λ x e. found.1 x e tail h) some none,
              )
        ]

    pub then_steady : Steady shape ends (first_sample ++ sample) (λ text. first text >>= second)
    then_steady = record {
      starts = λ tail h.
          subst (λ t. Gives shape tail (first t >>= second)) (sym (append_assoc first_sample sample tail))
          (gives_by (first (first_sample ++ (sample ++ tail))) tail (values (first_sample ++ (sample ++ tail))) h (steady.starts (sample ++ tail) (fits tail h)));
      at = λ text. record {
        within = within_by (first text) (length text) (values text) (steady.at text).within;
        stays = λ more some. stays_by (first text) (first (text ++ more)) more (values text) ((steady.at text).stays more) some;
        later = λ more none. later_by (first text) (first (text ++ more)) more (values text) (values (text ++ more)) ((steady.at text).stays more) ((steady.at text).later more) none;
        completes = completes_by text;
      };
    }
