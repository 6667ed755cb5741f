-- The reader of a query looks at no byte before it needs it.
use Rattle.std.proofs.Common.{◌≡◌, ℕ, ◌<◌, ◌≤◌, Bool, true, false, cond, ◌==◌, List, [], ◌∷◌, ◌++◌, length, refl, ap, sym, ◌∙◌, arith, subst, inl, inr}
use Rattle.std.specs.Prelude.{Ok, Err, codes}
use Rattle.std.proofs.lemmas.Grind.{common_steps}
use Rattle.word_model.specs.Numbers.{begins_with}
use Rattle.script_model.specs.Readers.{◌>>=◌}
use Rattle.script_model.specs.Queries.{Feature, MediaType, AllMedia, ScreenMedia, PrintMedia, Prefix, NoPrefix, NotPrefix, OnlyPrefix, MediaQuery, Typed, NotFeature, AllFeatures, AnyFeatures}
use Rattle.script_model.specs.Media.{Read, skip, gap_at, says, feature_at, query_ends, joined_at, more_at, others_at, medium_at, typed_at, all_at, any_at, features_from, condition_at, not_feature_at, not_at, only_at, query_at}
use Rattle.media_queries.proofs.ShortLengths.{skip_leaves}
use Rattle.media_queries.proofs.Steady.{Shape, left, on, Gives, Steady, Any, whole, zero_or_more}
use Rattle.media_queries.proofs.SteadyParts.{values, choice_steady, value_steady, says_steady, NoBlank, past_blanks, Comma, past_steady, turned_steady}
use Rattle.media_queries.proofs.SteadyFeatures.{word_then, gap_then, value_then, feature_steady, joined_steady}
use Rattle.media_queries.proofs.SteadyJoined.{begun_stays, begun_some, ended, is_fault, no_value, fault_then, joined_fault, joined_none, true_or_false, lists, and_joint, or_joint, others_steady}

abbrev pub queries : Shape (MediaQuery × List ℕ)
queries = past_blanks {A = MediaQuery}

-- Features joined by `and` or by `or`: the byte behind the gap tells.

module _ (every either : List ℕ → Read MediaQuery) (sample : List ℕ) (all_steady : Steady queries Comma [] every) (any_steady : Steady queries Comma sample either)
    (all_none : (text : List ℕ) → length (skip text) ≡ 0 → left queries (every text) ≡ 0) (any_none : (text : List ℕ) → length (skip text) ≡ 0 → left queries (either text) ≡ 0)
    (no_all : (text : List ℕ) → begins_with 111 (skip text) ≡ true → is_fault (every text)) where
  joint : List ℕ → Read MediaQuery
  joint text = cond (begins_with 111 (skip text)) (either text) (every text)

  any_is : (text : List ℕ) → begins_with 111 (skip text) ≡ true → joint text ≡ either text
  unfolding joint
  any_is text e = ap (λ test. cond test (either text) (every text)) e

  all_is : (text : List ℕ) → begins_with 111 (skip text) ≡ false → joint text ≡ every text
  unfolding joint
  all_is text e = ap (λ test. cond test (either text) (every text)) e

  joint_within : (text : List ℕ) → left queries (joint text) ≤ length text
  joint_within text =
      elim (true_or_false (begins_with 111 (skip text))) [
        | inl e ↦ subst (λ r. left queries r ≤ length text) (sym (any_is text e)) (any_steady.at text).within
        | inr e ↦ subst (λ r. left queries r ≤ length text) (sym (all_is text e)) (all_steady.at text).within
      ]

  joint_stays : (text more : List ℕ) → 0 < left queries (joint text) → joint (text ++ more) ≡ on queries more (joint text)
  joint_stays text more some =
      elim (true_or_false (begins_with 111 (skip text))) [
        | inl e ↦
            any_is (text ++ more) (begun_stays 111 text more (begun_some 111 (skip text) e) ∙ e)
            ∙ (any_steady.at text).stays more (subst (λ r. 0 < left queries r) (any_is text e) some) ∙ ap (on queries more) (sym (any_is text e))
        | inr e ↦
            let inner : 0 < left queries (every text) = subst (λ r. 0 < left queries r) (all_is text e) some in
            elim (zero_or_more (length (skip text))) [
              | inl none ↦ absurd (let h : left queries (every text) ≡ 0 = all_none text none in omega (arith, inner, h))
              | inr shown ↦ all_is (text ++ more) (begun_stays 111 text more shown ∙ e) ∙ (all_steady.at text).stays more inner ∙ ap (on queries more) (sym (all_is text e))
            ]
      ]

  joint_later : (text more : List ℕ) → left queries (joint text) ≡ 0 → left queries (joint (text ++ more)) ≤ length more
  joint_later text more none =
      elim (true_or_false (begins_with 111 (skip text))) [
        | inl e ↦
            subst (λ r. left queries r ≤ length more) (sym (any_is (text ++ more) (begun_stays 111 text more (begun_some 111 (skip text) e) ∙ e)))
            ((any_steady.at text).later more (ap (left queries) (sym (any_is text e)) ∙ none))
        | inr e ↦ elim (true_or_false (begins_with 111 (skip (text ++ more)))) [
          | inl f ↦ subst (λ r. left queries r ≤ length more) (sym (any_is (text ++ more) f))
              (elim (zero_or_more (length (skip text))) [
                | inl empty ↦ (any_steady.at text).later more (any_none text empty)
                | inr shown ↦ absurd (let h : begins_with 111 (skip (text ++ more)) ≡ begins_with 111 (skip text) = begun_stays 111 text more shown in cc)
              ])
          | inr f ↦ subst (λ r. left queries r ≤ length more) (sym (all_is (text ++ more) f)) ((all_steady.at text).later more (ap (left queries) (sym (all_is text e)) ∙ none))
        ]
      ]

  all_gives : (text tail : List ℕ) → Gives queries tail (every text) → Gives queries tail (joint text)
  all_gives text tail gives =
      elim (true_or_false (begins_with 111 (skip text))) [
        | inl e ↦ absurd (no_value queries tail (every text) (no_all text e) gives)
        | inr e ↦ subst (Gives queries tail) (sym (all_is text e)) gives
      ]

  joint_completes : (text : List ℕ) → left queries (joint text) ≡ 0 → (more : List ℕ) × ((tail : List ℕ) → Comma tail → Gives queries tail (joint (text ++ (more ++ tail))))
  joint_completes text none =
      elim (true_or_false (begins_with 111 (skip text))) [
        | inl e ↦
            let found = (any_steady.at text).completes (ap (left queries) (sym (any_is text e)) ∙ none) in (
              found.0,
              λ tail comma.
                  subst (Gives queries tail) (sym (any_is (text ++ (found.0 ++ tail)) (begun_stays 111 text (found.0 ++ tail) (begun_some 111 (skip text) e) ∙ e))) (found.1 tail comma),
            )
        | inr e ↦
            let found = (all_steady.at text).completes (ap (left queries) (sym (all_is text e)) ∙ none) in
            (found.0, λ tail comma. all_gives (text ++ (found.0 ++ tail)) tail (found.1 tail comma))
      ]

  joint_steady : Steady queries Comma [] (λ text. cond (begins_with 111 (skip text)) (either text) (every text))
  unfolding joint
  joint_steady = record {
    starts = λ tail comma. all_gives tail tail (all_steady.starts tail comma);
    at = λ text. record { within = joint_within text; stays = joint_stays text; later = joint_later text; completes = joint_completes text };
  }

all_steady : (first : Feature) → Steady queries Comma [] (all_at first)
unfolding all_at
all_steady first = turned_steady Comma [] (others_at (codes "and")) (λ others. AllFeatures first others) (others_steady 97 (codes "nd") and_joint)

any_steady : (first : Feature) → Steady queries Comma (codes " or (height:0px)") (any_at first)
unfolding any_at
any_steady first =
    value_then queries Comma Any [] (codes " or (height:0px)") (joined_at (codes "or")) (λ second. others_at (codes "or") second.1 >>= λ others. Ok (AnyFeatures first second.0 others.0, others.1))
    (joined_steady (codes "or") or_joint.no_blank)
    (λ second. turned_steady Comma [] (others_at (codes "or")) (λ others. AnyFeatures first second others) (others_steady 111 (codes "r") or_joint)) (λ tail h. tt)

abbrev turn : Bool → List ℕ → (List ℕ → Read (List Feature)) → Read Feature → Read (List Feature)
turn ends text more read = cond ends (Ok ([], text)) (read >>= λ feature. more feature.1 >>= λ others. Ok (feature.0 ∷ others.0, others.1))

nothing_turned : (query : List Feature → MediaQuery) (read : Read (List Feature)) → left lists read ≡ 0 → left queries (read >>= λ others. Ok (query others.0, others.1)) ≡ 0
nothing_turned query (Ok x) e = e
nothing_turned query (Err k) e = e

others_none : (text : List ℕ) → length (skip text) ≡ 0 → left lists (others_at (codes "and") text) ≡ 0
unfolding others_at more_at
others_none text none =
    elim (query_ends text) as (λ ends. left lists (turn ends text (more_at (length text) (codes "and")) (joined_at (codes "and") text)) ≡ 0) [
      | true ↦ none
      | false ↦ ap (λ (r : Read Feature). left lists (r >>= λ feature. more_at (length text) (codes "and") feature.1 >>= λ others. Ok (feature.0 ∷ others.0, others.1))) (joined_none 97 (codes "nd") text none)
    ]

all_none : (first : Feature) (text : List ℕ) → length (skip text) ≡ 0 → left queries (all_at first text) ≡ 0
unfolding all_at
all_none first text none = nothing_turned (λ others. AllFeatures first others) (others_at (codes "and") text) (others_none text none)

any_none : (first : Feature) (text : List ℕ) → length (skip text) ≡ 0 → left queries (any_at first text) ≡ 0
unfolding any_at
any_none first text none =
    ap (λ (r : Read Feature). left queries (r >>= λ second. others_at (codes "or") second.1 >>= λ others. Ok (AnyFeatures first second.0 others.0, others.1))) (joined_none 111 (codes "r") text none)

two_firsts : (text : List ℕ) → begins_with 44 text ≡ true → begins_with 111 text ≡ true → ⊥
unfolding begins_with
two_firsts [] comma letter = absurd cc
two_firsts (b ∷ bs) comma letter = absurd (let h : (b == 44) ≡ false = grind (arith, common_steps) in cc)

no_others : (text : List ℕ) → begins_with 111 (skip text) ≡ true → is_fault (others_at (codes "and") text)
unfolding others_at more_at
no_others text letter =
    elim (true_or_false (query_ends text)) [
      | inl ends ↦ elim (ended text ends) [
        | inl over ↦ absurd (let h : 0 < length (skip text) = begun_some 111 (skip text) letter in omega (arith, h, skip_leaves text, over))
        | inr comma ↦ absurd (two_firsts (skip text) comma letter)
      ]
      | inr goes_on ↦ subst (λ ends. is_fault (turn ends text (more_at (length text) (codes "and")) (joined_at (codes "and") text))) (sym goes_on)
          (fault_then (joined_at (codes "and") text) (λ feature. more_at (length text) (codes "and") feature.1 >>= λ others. Ok (feature.0 ∷ others.0, others.1)) (joined_fault 97 111 (codes "nd") text refl letter))
    ]

no_all : (first : Feature) (text : List ℕ) → begins_with 111 (skip text) ≡ true → is_fault (all_at first text)
unfolding all_at
no_all first text letter = fault_then (others_at (codes "and") text) (λ others. Ok (AllFeatures first others.0, others.1)) (no_others text letter)

from_steady : (first : Feature) → Steady queries Comma [] (features_from first)
unfolding features_from
from_steady first = joint_steady (all_at first) (any_at first) (codes " or (height:0px)") (all_steady first) (any_steady first) (all_none first) (any_none first) (no_all first)

-- Queries.

condition_steady : Steady queries Comma (codes "(height:0px)") condition_at
unfolding condition_at
condition_steady = value_then queries Comma Any [] (codes "(height:0px)") feature_at (λ first. features_from first.0 first.1) feature_steady from_steady (λ tail h. tt)

abbrev media : Shape (MediaType × List ℕ)
media = whole (values {A = MediaType})

medium_steady : Steady media Any (codes "print") medium_at
unfolding medium_at begins_with
medium_steady =
    choice_steady media Any 97 (codes "print") (codes "all") (says (codes "all") AllMedia) (λ text. cond (begins_with 115 text) (says (codes "screen") ScreenMedia text) (says (codes "print") PrintMedia text))
    (says_steady Any (codes "all") AllMedia)
    (choice_steady media Any 115 (codes "print") (codes "screen") (says (codes "screen") ScreenMedia) (says (codes "print") PrintMedia)
    (says_steady Any (codes "screen") ScreenMedia) (says_steady Any (codes "print") PrintMedia) (λ tail h. refl)) (λ tail h. refl)

typed_steady : (before : Prefix) → Steady queries Comma (codes "print") (typed_at before)
unfolding typed_at
typed_steady before =
    value_then queries Comma Any [] (codes "print") medium_at (λ medium. others_at (codes "and") medium.1 >>= λ features. Ok (Typed before medium.0 features.0, features.1)) medium_steady
    (λ medium. turned_steady Comma [] (others_at (codes "and")) (λ features. Typed before medium features) (others_steady 97 (codes "nd") and_joint)) (λ tail h. tt)

not_feature_steady : Steady queries Comma (codes "(height:0px)") not_feature_at
unfolding not_feature_at
not_feature_steady =
    past_steady (codes "(height:0px)") (λ text. feature_at text >>= λ feature. Ok (NotFeature feature.0, feature.1))
    (value_then (whole (values {A = MediaQuery})) Any Any [] (codes "(height:0px)") feature_at (λ feature. Ok (NotFeature feature.0, feature.1)) feature_steady (λ feature. value_steady Any (NotFeature feature)) (λ tail h. tt))

print_apart : (tail : List ℕ) → NoBlank (codes "print" ++ tail)
unfolding skip
print_apart tail = refl

not_steady : Steady queries Comma (codes "not print") not_at
unfolding not_at begins_with
not_steady =
    word_then queries Comma (codes " print") (λ next. gap_at next >>= λ rest. cond (begins_with 40 rest) (not_feature_at rest) (typed_at NotPrefix rest))
    (gap_then queries Comma (codes "print") (λ rest. cond (begins_with 40 rest) (not_feature_at rest) (typed_at NotPrefix rest))
    (choice_steady queries Comma 40 (codes "print") (codes "(height:0px)") not_feature_at (typed_at NotPrefix) not_feature_steady (typed_steady NotPrefix) (λ tail h. refl)) (λ tail h. print_apart tail)) (codes "not")

only_steady : Steady queries Comma (codes "only print") only_at
unfolding only_at
only_steady =
    word_then queries Comma (codes " print") (λ next. gap_at next >>= λ rest. typed_at OnlyPrefix rest)
    (gap_then queries Comma (codes "print") (typed_at OnlyPrefix) (typed_steady OnlyPrefix) (λ tail h. print_apart tail)) (codes "only")

pub query_steady : Steady queries Comma (codes "print") query_at
unfolding query_at begins_with
query_steady =
    choice_steady queries Comma 110 (codes "print") (codes "not print") not_at (λ text. cond (begins_with 111 text) (only_at text) (cond (begins_with 40 text) (condition_at text) (typed_at NoPrefix text))) not_steady
    (choice_steady queries Comma 111 (codes "print") (codes "only print") only_at (λ text. cond (begins_with 40 text) (condition_at text) (typed_at NoPrefix text)) only_steady
    (choice_steady queries Comma 40 (codes "print") (codes "(height:0px)") condition_at (typed_at NoPrefix) condition_steady (typed_steady NoPrefix) (λ tail h. refl)) (λ tail h. refl)) (λ tail h. refl)
