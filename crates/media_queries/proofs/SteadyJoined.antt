-- The readers of joined features look at no byte before they need it.
use Rattle.std.proofs.Common.{◌≡◌, ℕ, zero, suc, ◌<◌, ◌≤◌, Bool, true, false, cond, ◌==◌, List, [], ◌∷◌, ◌++◌, length, refl, ap, sym, ◌∙◌, arith, subst, length-append, ◌⊎◌, inl, inr}
use Rattle.std.specs.Prelude.{Result, Ok, Err, codes}
use Rattle.std.proofs.lemmas.Grind.{common_steps}
use Rattle.word_model.specs.Numbers.{begins_with}
use Rattle.script_model.specs.Readers.{◌>>=◌, is_empty}
use Rattle.script_model.specs.Queries.{Feature}
use Rattle.script_model.specs.Media.{Read, byte_at, word_at, is_blank, skip, gap_at, feature_at, query_ends, joined_at, more_at, others_at}
use Rattle.media_queries.proofs.Readings.{OnValue, weaker_on}
use Rattle.media_queries.proofs.Shortest.{joined_shown}
use Rattle.media_queries.proofs.ShortLengths.{skip_leaves}
use Rattle.media_queries.proofs.Steady.{Shape, left, on, Gives, At, Steady, Any, zero_or_more}
use Rattle.media_queries.proofs.SteadyParts.{value_steady, NoBlank, skip_stays, skip_later, past_blanks, Comma, comma_no_blank, past_steady, turned_steady}
use Rattle.media_queries.proofs.SteadyFeatures.{value_then, joined_steady}

-- What stands behind blanks.

first_stays : (byte : ℕ) (text more : List ℕ) → 0 < length text → begins_with byte (text ++ more) ≡ begins_with byte text
unfolding begins_with
first_stays byte [] more some = absurd (omega arith)
first_stays byte (b ∷ bs) more some = refl

pub begun_stays : (byte : ℕ) (text more : List ℕ) → 0 < length (skip text) → begins_with byte (skip (text ++ more)) ≡ begins_with byte (skip text)
begun_stays byte text more some = ap (begins_with byte) (skip_stays text more some) ∙ first_stays byte (skip text) more some

pub begun_some : (byte : ℕ) (text : List ℕ) → begins_with byte text ≡ true → 0 < length text
unfolding begins_with
begun_some byte [] e = absurd cc
begun_some byte (b ∷ bs) e = omega arith

-- where features end: at the text's end, and where a comma stands behind blanks
pub ends_at : (text : List ℕ) → Comma (skip text) → query_ends text ≡ true
unfolding query_ends is_empty
ends_at [] comma = refl
ends_at (b ∷ bs) comma = comma

-- a comma, or no text at all
pub ended : (text : List ℕ) → query_ends text ≡ true → (length text ≡ 0) ⊎ Comma (skip text)
unfolding query_ends is_empty
ended [] ends = inl refl
ended (b ∷ bs) ends = inr ends

open_text : (text : List ℕ) → query_ends text ≡ false → (0 < length text) × (begins_with 44 (skip text) ≡ false)
unfolding query_ends is_empty
open_text [] ends = absurd cc
open_text (b ∷ bs) ends = (omega arith, ends)

ends_here : (text : List ℕ) → 0 < length text → query_ends text ≡ begins_with 44 (skip text)
unfolding query_ends is_empty
ends_here [] some = absurd (omega arith)
ends_here (b ∷ bs) some = refl

pub longer : (text more : List ℕ) → 0 < length text → 0 < length (text ++ more)
longer text more some = omega (arith, length-append text more)

ends_stay : (text more : List ℕ) → 0 < length text → 0 < length (skip text) → query_ends (text ++ more) ≡ query_ends text
ends_stay text more some shown = ends_here (text ++ more) (longer text more some) ∙ begun_stays 44 text more shown ∙ sym (ends_here text some)

pub shown_some : (text : List ℕ) → 0 < length (skip text) → 0 < length text
shown_some text some = omega (arith, skip_leaves text)

-- A word that doesn't stand there.

unfoldable pub is_fault : {A : Type 0} → Result A ℕ → Type 0
is_fault (Ok value) = ⊥
is_fault (Err k) = Unit {0}

pub no_value : {A : Type 0} → (shape : Shape A) (tail : List ℕ) (read : Result A ℕ) → is_fault read → Gives shape tail read → ⊥
unfolding is_fault
no_value shape tail (Ok value) fault gives = fault
no_value shape tail (Err k) fault gives = gives

pub fault_then : {A B : Type 0} → (read : Result A ℕ) (next : A → Result B ℕ) → is_fault read → is_fault (read >>= next)
unfolding is_fault
fault_then (Ok value) next fault = absurd fault
fault_then (Err k) next fault = tt

abbrev passed : Bool → List ℕ → ℕ → Result (List ℕ) ℕ
passed test bs n = cond test (Ok bs) (Err n)

-- another byte stands first
byte_fault : (byte other : ℕ) (text : List ℕ) → (other == byte) ≡ false → begins_with other text ≡ true → is_fault (byte_at byte text)
unfolding byte_at begins_with is_fault
byte_fault byte other [] apart begun = tt
byte_fault byte other (b ∷ bs) apart begun =
    elim (b == byte) as (λ test. (b == byte) ≡ test → is_fault (passed test bs (length (b ∷ bs)))) [
      | true ↦ λ e. absurd (let h : (other == byte) ≡ true = grind (arith, common_steps) in cc)
      | false ↦ λ e. tt
    ] refl

abbrev gap : Bool → List ℕ → ℕ → Result (List ℕ) ℕ
gap blank bs n = cond blank (Ok (skip bs)) (Err n)

abbrev behind_gap : List ℕ → List ℕ → Read Feature
behind_gap joint next = word_at joint next >>= λ rest. gap_at rest >>= λ inside. feature_at inside

word_fault : (byte other : ℕ) (word text : List ℕ) → (other == byte) ≡ false → begins_with other text ≡ true → is_fault (behind_gap (byte ∷ word) text)
unfolding word_at
word_fault byte other word text apart begun =
    fault_then (byte_at byte text >>= word_at word) (λ rest. gap_at rest >>= λ inside. feature_at inside) (fault_then (byte_at byte text) (word_at word) (byte_fault byte other text apart begun))

pub joined_fault : (byte other : ℕ) (word text : List ℕ) → (other == byte) ≡ false → begins_with other (skip text) ≡ true → is_fault (joined_at (byte ∷ word) text)
unfolding joined_at skip is_fault
joined_fault byte other word [] apart begun = tt
joined_fault byte other word (b ∷ bs) apart begun =
    elim (is_blank b) as (λ blank. begins_with other (cond blank (skip bs) (b ∷ bs)) ≡ true → is_fault (gap blank bs (length (b ∷ bs)) >>= behind_gap (byte ∷ word))) [
      | true ↦ λ h. word_fault byte other word (skip bs) apart h
      | false ↦ λ h. tt
    ] begun

word_none : (byte : ℕ) (word text : List ℕ) → length text ≡ 0 → behind_gap (byte ∷ word) text ≡ Err 0
unfolding word_at byte_at
word_none byte word [] e = refl
word_none byte word (b ∷ bs) e = absurd (omega arith)

-- blanks alone
pub joined_none : (byte : ℕ) (word text : List ℕ) → length (skip text) ≡ 0 → joined_at (byte ∷ word) text ≡ Err 0
unfolding joined_at skip
joined_none byte word [] none = refl
joined_none byte word (b ∷ bs) none =
    elim (is_blank b) as (λ blank. length (cond blank (skip bs) (b ∷ bs)) ≡ 0 → (gap blank bs (length (b ∷ bs)) >>= behind_gap (byte ∷ word)) ≡ Err 0) [
      | true ↦ λ h. word_none byte word (skip bs) h
      | false ↦ λ h. absurd (omega (arith, h))
    ] none

-- A loop over joined features.

pub true_or_false : (b : Bool) → (b ≡ true) ⊎ (b ≡ false)
true_or_false true = inl refl
true_or_false false = inr refl

pub no_bytes : (text more : List ℕ) → length text ≡ 0 → text ++ more ≡ more
no_bytes [] more e = refl
no_bytes (b ∷ bs) more e = absurd (omega arith)

pub comma_skip : (tail : List ℕ) → Comma tail → Comma (skip tail)
comma_skip tail comma = ap (begins_with 44) (comma_no_blank tail comma) ∙ comma

abbrev pub lists : Shape (List Feature × List ℕ)
lists = past_blanks {A = List Feature}

module _ (byte : ℕ) (word : List ℕ) (apart : (44 == byte) ≡ false) (sample : List ℕ) (next : Feature × List ℕ → Read (List Feature))
    (steady : Steady lists Comma sample (λ text. joined_at (byte ∷ word) text >>= next)) where
  goes : List ℕ → Read (List Feature)
  goes text = joined_at (byte ∷ word) text >>= next

  turn : List ℕ → Read (List Feature)
  turn text = cond (query_ends text) (Ok ([], text)) (joined_at (byte ∷ word) text >>= next)

  open_is : (text : List ℕ) → query_ends text ≡ false → turn text ≡ goes text
  unfolding turn goes
  open_is text e = ap (λ ends. cond ends (Ok ([], text)) (joined_at (byte ∷ word) text >>= next)) e

  shut_is : (text : List ℕ) → query_ends text ≡ true → turn text ≡ Ok ([], text)
  unfolding turn
  shut_is text e = ap (λ ends. cond ends (Ok ([], text)) (joined_at (byte ∷ word) text >>= next)) e

  goes_at : (text : List ℕ) → At lists Comma goes text
  unfolding goes
  goes_at text = let found = steady.at text in record { within = found.within; stays = found.stays; later = found.later; completes = found.completes }

  blanks_open : (text : List ℕ) → length (skip text) ≡ 0 → left lists (goes text) ≡ 0
  unfolding goes
  blanks_open text none = ap (λ (r : Read Feature). left lists (r >>= next)) (joined_none byte word text none)

  turn_within : (text : List ℕ) → left lists (turn text) ≤ length text
  turn_within text =
      elim (true_or_false (query_ends text)) [
        | inl e ↦ subst (λ r. left lists r ≤ length text) (sym (shut_is text e)) (skip_leaves text)
        | inr e ↦ subst (λ r. left lists r ≤ length text) (sym (open_is text e)) (goes_at text).within
      ]

  turn_stays : (text more : List ℕ) → 0 < left lists (turn text) → turn (text ++ more) ≡ on lists more (turn text)
  turn_stays text more some =
      elim (true_or_false (query_ends text)) [
        | inl e ↦
            let shown : 0 < length (skip text) = subst (λ r. 0 < left lists r) (shut_is text e) some in
            shut_is (text ++ more) (ends_stay text more (shown_some text shown) shown ∙ e) ∙ ap (on lists more) (sym (shut_is text e))
        | inr e ↦
            let inner : 0 < left lists (goes text) = subst (λ r. 0 < left lists r) (open_is text e) some in
            elim (zero_or_more (length (skip text))) [
              | inl none ↦ absurd (let h : left lists (goes text) ≡ 0 = blanks_open text none in omega (arith, inner, h))
              | inr shown ↦ open_is (text ++ more) (ends_stay text more (shown_some text shown) shown ∙ e) ∙ (goes_at text).stays more inner
                  ∙ ap (on lists more) (sym (open_is text e))
            ]
      ]

  -- the text's end, where nothing is left
  no_more : (text : List ℕ) → query_ends text ≡ true → left lists (turn text) ≡ 0 → length text ≡ 0
  no_more text e none =
      let empty : length (skip text) ≡ 0 = ap (left lists) (sym (shut_is text e)) ∙ none in
      elim (ended text e) [
        | inl over ↦ over
        | inr comma ↦ absurd (let h : 0 < length (skip text) = begun_some 44 (skip text) comma in omega (arith, h, empty))
      ]

  turn_later : (text more : List ℕ) → left lists (turn text) ≡ 0 → left lists (turn (text ++ more)) ≤ length more
  turn_later text more none =
      elim (true_or_false (query_ends text)) [
        | inl e ↦ subst (λ t. left lists (turn t) ≤ length more) (sym (no_bytes text more (no_more text e none))) (turn_within more)
        | inr e ↦
            let inner : left lists (goes text) ≡ 0 = ap (left lists) (sym (open_is text e)) ∙ none in
            elim (true_or_false (query_ends (text ++ more))) [
              | inl f ↦ subst (λ r. left lists r ≤ length more) (sym (shut_is (text ++ more) f))
                  (elim (zero_or_more (length (skip text))) [
                    | inl empty ↦ skip_later text more empty
                    | inr shown ↦ absurd (let h : query_ends (text ++ more) ≡ query_ends text = ends_stay text more (shown_some text shown) shown in cc)
                  ])
              | inr f ↦ subst (λ r. left lists r ≤ length more) (sym (open_is (text ++ more) f)) ((goes_at text).later more inner)
            ]
      ]

  turn_ends : (tail : List ℕ) → Comma tail → Gives lists tail (turn tail)
  turn_ends tail comma = subst (Gives lists tail) (sym (shut_is tail (ends_at tail (comma_skip tail comma)))) (comma_no_blank tail comma)

  goes_open : (text tail : List ℕ) → 0 < length text → Gives lists tail (goes text) → query_ends text ≡ false
  unfolding goes
  goes_open text tail some gives =
      elim (true_or_false (query_ends text)) [
        | inl e ↦ elim (ended text e) [
          | inl over ↦ absurd (omega (arith, over, some))
          | inr comma ↦ absurd (no_value lists tail (joined_at (byte ∷ word) text >>= next) (fault_then (joined_at (byte ∷ word) text) next (joined_fault byte 44 word text apart comma)) gives)
        ]
        | inr e ↦ e
      ]

  turn_completes : (text : List ℕ) → left lists (turn text) ≡ 0 → (more : List ℕ) × ((tail : List ℕ) → Comma tail → Gives lists tail (turn (text ++ (more ++ tail))))
  turn_completes text none =
      elim (true_or_false (query_ends text)) [
        | inl e ↦ ([], λ tail comma. subst (λ t. Gives lists tail (turn t)) (sym (no_bytes text tail (no_more text e none))) (turn_ends tail comma))
        | inr e ↦
            let inner : left lists (goes text) ≡ 0 = ap (left lists) (sym (open_is text e)) ∙ none in
            let found = (goes_at text).completes inner in (
              found.0,
              λ tail comma.
                  let gives = found.1 tail comma in
                  let some : 0 < length (text ++ (found.0 ++ tail)) = longer text (found.0 ++ tail) (open_text text e).0 in
                  subst (Gives lists tail) (sym (open_is (text ++ (found.0 ++ tail)) (goes_open (text ++ (found.0 ++ tail)) tail some gives))) gives,
            )
      ]

  pub loop_steady : Steady lists Comma [] (λ text. cond (query_ends text) (Ok ([], text)) (joined_at (byte ∷ word) text >>= next))
  unfolding turn
  loop_steady = record {
    starts = turn_ends;
    at = λ text. record { within = turn_within text; stays = turn_stays text; later = turn_later text; completes = turn_completes text };
  }

-- a word that joins features
pub record Joint (byte : ℕ) (word : List ℕ) : Type 0 where
  pub apart : (44 == byte) ≡ false
  pub no_blank : (tail : List ℕ) → NoBlank (((byte ∷ word) ++ codes " (height:0px)") ++ tail)

pub and_joint : Joint 97 (codes "nd")
unfolding skip
and_joint = record { apart = refl; no_blank = λ tail. refl }

pub or_joint : Joint 111 (codes "r")
unfolding skip
or_joint = record { apart = refl; no_blank = λ tail. refl }

more_steady : (fuel byte : ℕ) (word : List ℕ) → Joint byte word → Steady lists Comma [] (more_at fuel (byte ∷ word))
unfolding more_at
more_steady zero byte word joint = past_steady [] (λ text. Ok ([], text)) (value_steady Any [])
more_steady (suc fuel) byte word joint =
    loop_steady byte word joint.apart ((32 ∷ ((byte ∷ word) ++ codes " (height:0px)")) ++ []) (λ feature. more_at fuel (byte ∷ word) feature.1 >>= λ others. Ok (feature.0 ∷ others.0, others.1))
    (value_then lists Comma Any [] (32 ∷ ((byte ∷ word) ++ codes " (height:0px)")) (joined_at (byte ∷ word)) (λ feature. more_at fuel (byte ∷ word) feature.1 >>= λ others. Ok (feature.0 ∷ others.0, others.1))
    (joined_steady (byte ∷ word) joint.no_blank)
    (λ feature. turned_steady Comma [] (more_at fuel (byte ∷ word)) (λ others. feature ∷ others) (more_steady fuel byte word joint)) (λ tail h. tt))

-- More turns than the text has bytes make no difference.

pub joined_short : (joint text : List ℕ) → OnValue (λ r. length r.1 < length text) (joined_at joint text)
joined_short joint text =
    weaker_on _ (λ r. length r.1 < length text) (joined_at joint text) (joined_shown joint text) (λ r h. omega (arith, h.1))

abbrev then_others : ℕ → List ℕ → Read Feature → Read (List Feature)
then_others fuel joint read = read >>= λ feature. more_at fuel joint feature.1 >>= λ others. Ok (feature.0 ∷ others.0, others.1)

same_after : (joint text : List ℕ) (fuel again : ℕ) (read : Read Feature) → OnValue (λ r. length r.1 < length text) read
    → ((rest : List ℕ) → length rest < length text → more_at fuel joint rest ≡ more_at again joint rest)
    → then_others fuel joint read ≡ then_others again joint read
same_after joint text fuel again (Ok x) short same = ap (λ (r : Read (List Feature)). r >>= λ others. Ok (x.0 ∷ others.0, others.1)) (same x.1 short)
same_after joint text fuel again (Err k) short same = refl

more_same : (fuel again : ℕ) (joint text : List ℕ) → length text < fuel → length text < again → more_at fuel joint text ≡ more_at again joint text
unfolding more_at
more_same zero again joint text h g = absurd (omega arith)
more_same (suc fuel) zero joint text h g = absurd (omega arith)
more_same (suc fuel) (suc again) joint text h g =
    ap (λ (r : Read (List Feature)). cond (query_ends text) (Ok ([], text)) r)
    (same_after joint text fuel again (joined_at joint text) (joined_short joint text) (λ rest short. more_same fuel again joint rest (omega arith) (omega arith)))

-- features that ended at a comma or at the text's end
Settled : List ℕ → Read (List Feature) → Read (List Feature) → Type 0
Settled joint read again = (x : List Feature × List ℕ) → read ≡ Ok x → query_ends x.1 ≡ true → again ≡ Ok x

stops_now : (ends : Bool) (joint text : List ℕ) (one two : Read (List Feature)) → Settled joint one two → Settled joint (cond ends (Ok ([], text)) one) (cond ends (Ok ([], text)) two)
unfolding Settled
stops_now true joint text one two h = λ x e f. e
stops_now false joint text one two h = h

pub ok_is : {A : Type 0} → (x y : A) → ◌≡◌ {A = Result A ℕ} (Ok x) (Ok y) → x ≡ y
ok_is x y e = cc

settled_value : (joint : List ℕ) (feature : Feature) (one two : Read (List Feature)) → Settled joint one two
    → Settled joint (one >>= λ others. Ok (feature ∷ others.0, others.1)) (two >>= λ others. Ok (feature ∷ others.0, others.1))
unfolding Settled
settled_value joint feature (Err k) two h = λ x e f. absurd cc
settled_value joint feature (Ok y) two h = λ x e f.
    let same : (feature ∷ y.0, y.1) ≡ x = ok_is (feature ∷ y.0, y.1) x e in
    let ends : query_ends y.1 ≡ true = ap (λ (z : List Feature × List ℕ). query_ends z.1) same ∙ f in
    ap (λ (r : Read (List Feature)). r >>= λ others. Ok (feature ∷ others.0, others.1)) (h y refl ends) ∙ e

settled_after : (joint : List ℕ) (fuel again : ℕ) (read : Read Feature) → ((rest : List ℕ) → Settled joint (more_at fuel joint rest) (more_at again joint rest))
    → Settled joint (then_others fuel joint read) (then_others again joint read)
unfolding Settled
settled_after joint fuel again (Err k) h = λ x e f. absurd cc
settled_after joint fuel again (Ok feature) h = settled_value joint (feature.0) (more_at fuel joint feature.1) (more_at again joint feature.1) (h feature.1)

settled_more : (fuel again : ℕ) (joint text : List ℕ) → fuel ≤ again → Settled joint (more_at fuel joint text) (more_at again joint text)
unfolding more_at Settled
settled_more zero zero joint text le = λ x e f. e
settled_more zero (suc again) joint text le = λ x e f.
    let same : text ≡ x.1 = ap (λ (y : List Feature × List ℕ). y.1) (ok_is ([], text) x e) in
    ap (λ ends. cond ends (Ok ([], text)) (then_others again joint (joined_at joint text))) (ap query_ends same ∙ f) ∙ e
settled_more (suc fuel) zero joint text le = absurd (omega arith)
settled_more (suc fuel) (suc again) joint text le =
    stops_now (query_ends text) joint text (then_others fuel joint (joined_at joint text)) (then_others again joint (joined_at joint text))
    (settled_after joint fuel again (joined_at joint text) (λ rest. settled_more fuel again joint rest (omega arith)))

pub others_are : (fuel : ℕ) (joint text : List ℕ) → length text < fuel → others_at joint text ≡ more_at fuel joint text
unfolding others_at
others_are fuel joint text h = more_same (suc (length text)) fuel joint text (omega arith) h

pub value_of : {A : Type 0} → (tail : List ℕ) (read : Read A) → Gives (past_blanks {A = A}) tail read → (x : A × List ℕ) × (read ≡ Ok x) × (skip x.1 ≡ tail)
value_of tail (Ok x) gives = (x, refl, gives)
value_of tail (Err k) gives = absurd gives

others_give : (fuel : ℕ) (joint text tail : List ℕ) → fuel ≤ suc (length text) → Comma tail → Gives lists tail (more_at fuel joint text) → Gives lists tail (others_at joint text)
unfolding others_at Settled
others_give fuel joint text tail le comma gives =
    let found = value_of tail (more_at fuel joint text) gives in
    let ends : query_ends found.0.1 ≡ true = ends_at found.0.1 (ap (begins_with 44) found.2 ∙ comma) in
    subst (Gives lists tail) (sym (settled_more fuel (suc (length text)) joint text le found.0 found.1 ends)) found.2

pub others_steady : (byte : ℕ) (word : List ℕ) → Joint byte word → Steady lists Comma [] (others_at (byte ∷ word))
others_steady byte word joint =
    record {
      starts = λ tail comma. others_give 1 (byte ∷ word) tail tail (omega arith) comma ((more_steady 1 byte word joint).starts tail comma);
      at = λ text. record {
        within = subst (λ r. left lists r ≤ length text) (sym (others_are (suc (length text)) (byte ∷ word) text (omega arith))) ((more_steady (suc (length text)) byte word joint).at text).within;
        stays = λ more some.
            let enough : length text < suc (length (text ++ more)) = omega (arith, length-append text more) in
            let here : others_at (byte ∷ word) text ≡ more_at (suc (length (text ++ more))) (byte ∷ word) text = others_are (suc (length (text ++ more))) (byte ∷ word) text enough in
            others_are (suc (length (text ++ more))) (byte ∷ word) (text ++ more) (omega arith)
            ∙ ((more_steady (suc (length (text ++ more))) byte word joint).at text).stays more (subst (λ r. 0 < left lists r) here some) ∙ ap (on lists more) (sym here);
        later = λ more none.
            let enough : length text < suc (length (text ++ more)) = omega (arith, length-append text more) in
            let here : others_at (byte ∷ word) text ≡ more_at (suc (length (text ++ more))) (byte ∷ word) text = others_are (suc (length (text ++ more))) (byte ∷ word) text enough in
            subst (λ r. left lists r ≤ length more) (sym (others_are (suc (length (text ++ more))) (byte ∷ word) (text ++ more) (omega arith)))
            (((more_steady (suc (length (text ++ more))) byte word joint).at text).later more (ap (left lists) (sym here) ∙ none));
        completes = λ none.
            let here : others_at (byte ∷ word) text ≡ more_at (suc (length text)) (byte ∷ word) text = others_are (suc (length text)) (byte ∷ word) text (omega arith) in
            let found = ((more_steady (suc (length text)) byte word joint).at text).completes (ap (left lists) (sym here) ∙ none) in
            (found.0, λ tail comma. others_give (suc (length text)) (byte ∷ word) (text ++ (found.0 ++ tail)) tail (omega (arith, length-append text (found.0 ++ tail))) comma (found.1 tail comma));
      };
    }
