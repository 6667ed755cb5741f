-- The loop over queries, a step at a time.
use Rattle.std.proofs.Common.{◌≡◌, ℕ, ◌<◌, ◌≤◌, Bool, true, false, cond, List, [], ◌∷◌, ◌++◌, length, refl, sym, ◌∙◌, ap, subst, append_assoc, arith}
use Rattle.std.specs.Prelude.{Result, Ok, Err}
use Rattle.std.proofs.lemmas.List.{append-nil}
use Rattle.script_model.specs.Readers.{◌>>=◌, is_empty}
use Rattle.script_model.specs.Queries.{MediaQuery}
use Rattle.script_model.specs.Media.{Read, byte_at, skip, query_at, queries_at}
use Rattle.media_queries.specs.Seen.{next_of}
use Rattle.media_queries.proofs.Columns.{Answer, joined, follows, queries_are, query_short, comma_short}
use Rattle.media_queries.proofs.Readings.{OnValue, then_on, weaker_on}
use Rattle.media_queries.proofs.ShortLengths.{skip_leaves}

-- the same behind these queries
abbrev pub listed : List MediaQuery → Result (List MediaQuery) ℕ → Result (List MediaQuery) ℕ
listed queries read = read >>= λ others. Ok (queries ++ others)

listed_one : (queries : List MediaQuery) (query : MediaQuery) (read : Result (List MediaQuery) ℕ)
    → listed queries (read >>= λ others. Ok (query ∷ others)) ≡ listed (queries ++ query ∷ []) read
listed_one queries query (Ok others) = ap (λ (qs : List MediaQuery). Ok qs) (sym (append_assoc queries (query ∷ []) others))
listed_one queries query (Err left) = refl

regrouped : (comma : Result (List ℕ) ℕ) → (comma >>= λ rest. queries_at (skip rest)) ≡ joined (comma >>= λ rest. query_at (skip rest)) follows
regrouped (Ok rest) = queries_are (skip rest)
regrouped (Err left) = refl

follows_step : (text : List ℕ) → follows text ≡ cond (is_empty text) (Ok []) (joined (next_of text) follows)
unfolding follows
follows_step text = ap (λ (r : Answer). cond (is_empty text) (Ok []) r) (regrouped (byte_at 44 (skip text)))

nothing_left : (text : List ℕ) → length text ≤ 0 → true ≡ is_empty text
unfolding is_empty
nothing_left [] none = refl
nothing_left (b ∷ bs) none = absurd (omega arith)

some_left : (text : List ℕ) → 0 < length text → false ≡ is_empty text
unfolding is_empty
some_left [] some = absurd (omega arith)
some_left (b ∷ bs) some = refl

next_step : (text : List ℕ) (ends : Bool) (read : Read MediaQuery) (queries : List MediaQuery) (whole : Answer) → listed queries (follows text) ≡ whole
    → ends ≡ is_empty text → read ≡ next_of text → listed queries (cond ends (Ok []) (joined read follows)) ≡ whole
next_step text ends read queries whole so e r =
    ap (λ c. listed queries (cond c (Ok []) (joined read follows))) e
    ∙ ap (λ (x : Read MediaQuery). listed queries (cond (is_empty text) (Ok []) (joined x follows))) r
    ∙ ap (listed queries) (sym (follows_step text)) ∙ so

pub list_first : (text rest : List ℕ) (first : MediaQuery) → query_at text ≡ Ok (first, rest) → listed (first ∷ []) (follows rest) ≡ queries_at text
list_first text rest first e = ap (λ (x : Read MediaQuery). joined x follows) (sym e) ∙ sym (queries_are text)

pub first_fails : (text : List ℕ) (left : ℕ) → query_at text ≡ Err left → queries_at text ≡ Err left
first_fails text left e = queries_are text ∙ ap (λ (x : Read MediaQuery). joined x follows) e

pub list_stops : (text : List ℕ) (queries : List MediaQuery) (whole : Answer) → listed queries (follows text) ≡ whole → length text ≤ 0 → whole ≡ Ok queries
list_stops text queries whole so none =
    sym (next_step text true (next_of text) queries whole so (nothing_left text none) refl)
    ∙ ap (λ (qs : List MediaQuery). Ok qs) (append-nil queries)

pub list_on : (text rest : List ℕ) (query : MediaQuery) (queries : List MediaQuery) (whole : Answer) → listed queries (follows text) ≡ whole
    → 0 < length text → next_of text ≡ Ok (query, rest) → listed (queries ++ query ∷ []) (follows rest) ≡ whole
list_on text rest query queries whole so some r =
    sym (listed_one queries query (follows rest)) ∙ next_step text false (Ok (query, rest)) queries whole so (some_left text some) (sym r)

pub list_fails : (left : ℕ) (text : List ℕ) (queries : List MediaQuery) (whole : Answer) → listed queries (follows text) ≡ whole
    → 0 < length text → next_of text ≡ Err left → whole ≡ Err left
list_fails left text queries whole so some r = sym (next_step text false (Err left) queries whole so (some_left text some) (sym r))

next_short : (text : List ℕ) → OnValue (λ r. length r.1 < length text) (next_of text)
next_short text =
    then_on (λ rest. length rest < length text) (λ r. length r.1 < length text) (byte_at 44 (skip text)) (λ rest. query_at (skip rest)) (comma_short text)
    (λ rest h. weaker_on _ (λ r. length r.1 < length text) (query_at (skip rest)) (query_short (skip rest)) (λ r g. omega (arith, g, h, skip_leaves rest)))

pub next_shorter : (text rest : List ℕ) (query : MediaQuery) → next_of text ≡ Ok (query, rest) → length rest < length text
next_shorter text rest query r = subst (OnValue (λ r. length r.1 < length text)) r (next_short text)
