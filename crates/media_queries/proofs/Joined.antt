-- The loop over joined features, a step at a time.
use Rattle.std.proofs.Common.{◌≡◌, ℕ, suc, ◌<◌, Bool, true, false, cond, List, [], ◌∷◌, ◌++◌, length, refl, sym, ◌∙◌, ap, subst, append_assoc}
use Rattle.std.specs.Prelude.{Ok, Err}
use Rattle.std.proofs.lemmas.List.{append-nil}
use Rattle.script_model.specs.Readers.{◌>>=◌}
use Rattle.script_model.specs.Queries.{Feature}
use Rattle.script_model.specs.Media.{Read, query_ends, joined_at, more_at, others_at}
use Rattle.media_queries.proofs.Readings.{OnValue}
use Rattle.media_queries.proofs.SteadyJoined.{joined_short, others_are}

-- the same behind these features
abbrev pub behind : List Feature → Read (List Feature) → Read (List Feature)
behind features read = read >>= λ others. Ok (features ++ others.0, others.1)

pub none_behind : (read : Read (List Feature)) → behind [] read ≡ read
none_behind (Ok others) = refl
none_behind (Err left) = refl

behind_one : (features : List Feature) (feature : Feature) (read : Read (List Feature))
    → behind features (read >>= λ others. Ok (feature ∷ others.0, others.1)) ≡ behind (features ++ feature ∷ []) read
behind_one features feature (Ok others) = ap (λ (fs : List Feature). Ok (fs, others.1)) (sym (append_assoc features (feature ∷ []) others.0))
behind_one features feature (Err left) = refl

-- Others are read without counted turns: each feature is shorter than the text.

abbrev then_by : (List ℕ → Read (List Feature)) → Read Feature → Read (List Feature)
then_by others read = read >>= λ feature. others feature.1 >>= λ more. Ok (feature.0 ∷ more.0, more.1)

same_then : (n : ℕ) (one two : List ℕ → Read (List Feature)) (read : Read Feature) → OnValue (λ r. length r.1 < n) read
    → ((rest : List ℕ) → length rest < n → one rest ≡ two rest) → then_by one read ≡ then_by two read
same_then n one two (Ok x) short same = ap (λ (r : Read (List Feature)). r >>= λ more. Ok (x.0 ∷ more.0, more.1)) (same x.1 short)
same_then n one two (Err k) short same = refl

others_is : (joint text : List ℕ) → others_at joint text ≡ more_at (suc (length text)) joint text
unfolding others_at
others_is joint text = refl

more_is : (fuel : ℕ) (joint text : List ℕ) → more_at (suc fuel) joint text ≡ cond (query_ends text) (Ok ([], text)) (then_by (more_at fuel joint) (joined_at joint text))
unfolding more_at
more_is fuel joint text = refl

others_step : (joint text : List ℕ) → others_at joint text ≡ cond (query_ends text) (Ok ([], text)) (then_by (others_at joint) (joined_at joint text))
others_step joint text =
    others_is joint text
    ∙ more_is (length text) joint text
    ∙ ap (λ (r : Read (List Feature)). cond (query_ends text) (Ok ([], text)) r)
    (same_then (length text) (more_at (length text) joint) (others_at joint) (joined_at joint text) (joined_short joint text)
    (λ rest short. sym (others_are (length text) joint rest short)))

next_step : (joint text : List ℕ) (ends : Bool) (read : Read Feature) (features : List Feature) (whole : Read (List Feature))
    → behind features (others_at joint text) ≡ whole → ends ≡ query_ends text → read ≡ joined_at joint text
    → behind features (cond ends (Ok ([], text)) (then_by (others_at joint) read)) ≡ whole
next_step joint text ends read features whole so e r =
    ap (λ c. behind features (cond c (Ok ([], text)) (then_by (others_at joint) read))) e
    ∙ ap (λ (x : Read Feature). behind features (cond (query_ends text) (Ok ([], text)) (then_by (others_at joint) x))) r
    ∙ ap (behind features) (sym (others_step joint text)) ∙ so

pub others_stop : (joint text : List ℕ) (features : List Feature) (whole : Read (List Feature))
    → behind features (others_at joint text) ≡ whole → true ≡ query_ends text → whole ≡ Ok (features, text)
others_stop joint text features whole so e =
    sym (next_step joint text true (joined_at joint text) features whole so e refl)
    ∙ ap (λ (fs : List Feature). Ok (fs, text)) (append-nil features)

pub others_on : (joint text rest : List ℕ) (feature : Feature) (features : List Feature) (whole : Read (List Feature))
    → behind features (others_at joint text) ≡ whole → false ≡ query_ends text → Ok (feature, rest) ≡ joined_at joint text
    → behind (features ++ feature ∷ []) (others_at joint rest) ≡ whole
others_on joint text rest feature features whole so e r =
    sym (behind_one features feature (others_at joint rest))
    ∙ next_step joint text false (Ok (feature, rest)) features whole so e r

pub others_fail : (left : ℕ) (joint text : List ℕ) (features : List Feature) (whole : Read (List Feature))
    → behind features (others_at joint text) ≡ whole → false ≡ query_ends text → Err left ≡ joined_at joint text → whole ≡ Err left
others_fail left joint text features whole so e r = sym (next_step joint text false (Err left) features whole so e r)

pub feature_shorter : (joint text rest : List ℕ) (feature : Feature) → Ok (feature, rest) ≡ joined_at joint text → length rest < length text
feature_shorter joint text rest feature r = subst (OnValue (λ r. length r.1 < length text)) (sym r) (joined_short joint text)
