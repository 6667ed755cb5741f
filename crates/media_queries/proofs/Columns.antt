-- The column of a fault is that of the first byte with which the text so far begins no list.
use Rattle.std.proofs.Common.{◌≡◌, ℕ, zero, suc, ◌+◌, ◌-◌, ◌<◌, ◌≤◌, Bool, true, false, cond, ◌==◌, List, [], ◌∷◌, ◌++◌, length, take, drop, refl, ap, sym, ◌∙◌, arith, subst, length-append, length-drop, ◌⊎◌, inl, inr}
use Rattle.std.specs.Prelude.{Result, Ok, Err, codes}
use Rattle.std.proofs.lemmas.List.{take-append-drop}
use Rattle.word_model.specs.Numbers.{begins_with}
use Rattle.script_model.specs.Readers.{◌>>=◌, with_fault, is_empty}
use Rattle.script_model.specs.Queries.{MediaQuery}
use Rattle.script_model.specs.Media.{Read, byte_at, skip, query_at, more_queries_at, queries_at, query_list}
use Rattle.media_queries.specs.Begins.{IsList, BeginsList, IsFirstBad}
use Rattle.media_queries.proofs.Readings.{OnValue, weaker_on}
use Rattle.media_queries.proofs.ShortLengths.{Leaves, byte_leaves, skip_leaves}
use Rattle.media_queries.proofs.Shortest.{query_shown}
use Rattle.media_queries.proofs.Steady.{left, on, Gives, zero_or_more}
use Rattle.media_queries.proofs.SteadyParts.{skip_stays, skip_through, Comma}
use Rattle.media_queries.proofs.SteadyJoined.{longer, shown_some, value_of}
use Rattle.media_queries.proofs.SteadyQueries.{queries, query_steady}

-- what a reader of a whole list answers
abbrev pub Answer : Type 0
Answer = Result (List MediaQuery) ℕ

-- A list without counted turns: a query, and behind a comma a list again.

abbrev after : List ℕ → Answer
after text = byte_at 44 text >>= λ rest. queries_at (skip rest)

-- what may follow a query
unfoldable pub follows : List ℕ → Answer
follows text = cond (is_empty text) (Ok []) (after (skip text))

abbrev pub joined : Read MediaQuery → (List ℕ → Answer) → Answer
joined read others = read >>= λ query. others query.1 >>= λ more. Ok (query.0 ∷ more)

abbrev added : MediaQuery → Answer → Answer
added query answer = answer >>= λ more. Ok (query ∷ more)

same_joined : (read : Read MediaQuery) (n : ℕ) (one two : List ℕ → Answer) → OnValue (λ r. length r.1 ≤ n) read → ((text : List ℕ) → length text ≤ n → one text ≡ two text)
    → joined read one ≡ joined read two
same_joined (Ok x) n one two short same = ap (λ (r : Answer). r >>= λ more. Ok (x.0 ∷ more)) (same x.1 short)
same_joined (Err k) n one two short same = refl

pub query_short : (text : List ℕ) → OnValue (λ r. length r.1 ≤ length text) (query_at text)
query_short text = weaker_on _ (λ r. length r.1 ≤ length text) (query_at text) (query_shown text) (λ r h. let short = h.shorter in omega (arith, short))

abbrev commas : (List ℕ → Answer) → List ℕ → Answer
commas others rest = joined (query_at (skip rest)) others

same_commas : (read : Result (List ℕ) ℕ) (n : ℕ) (one two : List ℕ → Answer) → OnValue (λ rest. length rest < n) read → ((rest : List ℕ) → length rest < n → one rest ≡ two rest)
    → (read >>= one) ≡ (read >>= two)
same_commas (Ok rest) n one two short same = same rest short
same_commas (Err k) n one two short same = refl

pub comma_short : (text : List ℕ) → OnValue (λ rest. length rest < length text) (byte_at 44 (skip text))
comma_short text = weaker_on (Leaves 1 (skip text)) (λ rest. length rest < length text) (byte_at 44 (skip text)) (byte_leaves 44 (skip text)) (λ rest h. omega (arith, h, skip_leaves text))

-- more turns than the text has bytes make no difference
more_same : (fuel again : ℕ) (text : List ℕ) → length text < fuel → length text < again → more_queries_at fuel text ≡ more_queries_at again text
unfolding more_queries_at
more_same zero again text h g = absurd (omega arith)
more_same (suc fuel) zero text h g = absurd (omega arith)
more_same (suc fuel) (suc again) text h g =
    ap (λ (r : Answer). cond (is_empty text) (Ok []) r)
    (same_commas (byte_at 44 (skip text)) (length text) (commas (more_queries_at fuel)) (commas (more_queries_at again)) (comma_short text)
    (λ rest short. same_joined (query_at (skip rest)) (length (skip rest)) (more_queries_at fuel) (more_queries_at again) (query_short (skip rest))
    (λ t le. more_same fuel again t (omega (arith, skip_leaves rest)) (omega (arith, skip_leaves rest)))))

list_is : (text : List ℕ) → queries_at text ≡ joined (query_at text) (more_queries_at (suc (length text)))
unfolding queries_at
list_is text = refl

more_is : (fuel : ℕ) (text : List ℕ) → length text < suc fuel → more_queries_at (suc fuel) text ≡ follows text
unfolding more_queries_at follows
more_is fuel text h =
    ap (λ (r : Answer). cond (is_empty text) (Ok []) r)
    (same_commas (byte_at 44 (skip text)) (length text) (commas (more_queries_at fuel)) (λ rest. queries_at (skip rest)) (comma_short text)
    (λ rest short. same_joined (query_at (skip rest)) (length (skip rest)) (more_queries_at fuel) (more_queries_at (suc (length (skip rest)))) (query_short (skip rest))
    (λ t le. more_same fuel (suc (length (skip rest))) t (omega (arith, skip_leaves rest)) (omega arith)) ∙ sym (list_is (skip rest))))

pub queries_are : (text : List ℕ) → queries_at text ≡ joined (query_at text) follows
queries_are text =
    list_is text ∙ same_joined (query_at text) (length text) (more_queries_at (suc (length text))) follows (query_short text) (λ t le. more_is (length text) t (omega arith))

some_follow : (text : List ℕ) → 0 < length text → follows text ≡ after (skip text)
unfolding follows is_empty
some_follow [] some = absurd (omega arith)
some_follow (b ∷ bs) some = refl

-- The bytes that are left at a fault, none with a list.

abbrev count : Answer → ℕ
count (Ok found) = 0
count (Err k) = k

count_kept : (query : MediaQuery) (answer : Answer) → count (answer >>= λ more. Ok (query ∷ more)) ≡ count answer
count_kept query (Ok found) = refl
count_kept query (Err k) = refl

count_joined : (read : Read MediaQuery) (n : ℕ) → OnValue (λ r. length r.1 ≤ n) read → ((text : List ℕ) → length text ≤ n → count (follows text) ≤ length (skip text))
    → count (joined read follows) ≤ left queries read
count_joined (Ok x) n short h = subst (λ k. k ≤ length (skip x.1)) (sym (count_kept x.0 (follows x.1))) (h x.1 short)
count_joined (Err k) n short h = omega arith

abbrev passed : Bool → List ℕ → ℕ → Result (List ℕ) ℕ
passed comma cs n = cond comma (Ok cs) (Err n)

after_within : (text : List ℕ) → ((shorter : List ℕ) → length shorter < length text → count (queries_at shorter) ≤ length shorter) → count (after text) ≤ length text
unfolding byte_at
after_within [] h = omega arith
after_within (c ∷ cs) h =
    elim (c == 44) as (λ comma. count (passed comma cs (length (c ∷ cs)) >>= λ rest. queries_at (skip rest)) ≤ suc (length cs)) [
      | true ↦ (let g : count (queries_at (skip cs)) ≤ length (skip cs) = h (skip cs) (omega (arith, skip_leaves cs)) in omega (arith, g, skip_leaves cs))
      | false ↦ omega arith
    ]

follows_within : (text : List ℕ) → ((shorter : List ℕ) → length shorter < length text → count (queries_at shorter) ≤ length shorter) → count (follows text) ≤ length (skip text)
unfolding follows is_empty
follows_within [] h = omega arith
follows_within (b ∷ bs) h = after_within (skip (b ∷ bs)) (λ shorter short. h shorter (omega (arith, skip_leaves (b ∷ bs))))

within_all : (n : ℕ) (text : List ℕ) → length text < n → count (queries_at text) ≤ length text
within_all zero text h = absurd (omega arith)
within_all (suc n) text h =
    let steady : left queries (query_at text) ≤ length text = (query_steady.at text).within in
    let inner : count (joined (query_at text) follows) ≤ left queries (query_at text) = count_joined (query_at text) (length text) (query_short text)
    (λ t le. follows_within t (λ shorter short. within_all n shorter (omega arith))) in
    subst (λ r. count r ≤ length text) (sym (queries_are text)) (omega (arith, steady, inner))

queries_within : (text : List ℕ) → count (queries_at text) ≤ length text
queries_within text = within_all (suc (length text)) text (omega arith)

rest_within : (text : List ℕ) → count (follows text) ≤ length (skip text)
rest_within text = follows_within text (λ shorter short. queries_within shorter)

-- What a reader of a whole list decided stays decided, and where it needs more, a list can be made.

IsValue : Answer → Type 0
IsValue (Ok found) = Unit {0}
IsValue (Err k) = ⊥

record Listed (read : List ℕ → Answer) (text : List ℕ) : Type 0 where
  stays : (k : ℕ) (more : List ℕ) → read text ≡ Err (suc k) → read (text ++ more) ≡ Err (suc k + length more)
  later : (more : List ℕ) → count (read text) ≡ 0 → count (read (text ++ more)) ≤ length more
  completes : count (read text) ≡ 0 → (more : List ℕ) × IsValue (read (text ++ more))

print_is_value : IsValue (queries_at (codes "print"))
unfolding IsValue queries_at
print_is_value = tt

comma_is_value : IsValue (after (codes ",print"))
unfolding IsValue queries_at
comma_is_value = tt

nothing_is : queries_at [] ≡ Err 0
unfolding queries_at
nothing_is = refl

nothing : (text : List ℕ) → length text ≡ 0 → text ≡ []
nothing [] e = refl
nothing (b ∷ bs) e = absurd (omega arith)

blanks_are : (text : List ℕ) → length (skip text) ≡ 0 → queries_at (skip text) ≡ Err 0
blanks_are text none = ap queries_at (nothing (skip text) none) ∙ nothing_is

print_behind : (text : List ℕ) → length (skip text) ≡ 0 → skip (text ++ codes "print") ≡ codes "print"
unfolding skip
print_behind text none = skip_through text (codes "print") none

fault_is : {A : Type 0} {k j : ℕ} → ◌≡◌ {A = Result A ℕ} (Err k) (Err j) → k ≡ j
fault_is e = cc

skipped : (text : List ℕ) → Listed queries_at (skip text) → Listed (λ t. queries_at (skip t)) text
skipped text listed =
    elim (zero_or_more (length (skip text))) [
      | inl none ↦ record {
        stays = λ k more e. absurd (let f : queries_at (skip text) ≡ Err 0 = blanks_are text none in let g : 0 ≡ suc k = fault_is (sym f ∙ e) in omega arith);
        later = λ more e. subst (λ t. count (queries_at t) ≤ length more) (sym (skip_through text more none)) (omega (arith, queries_within (skip more), skip_leaves more));
        completes = λ e. (codes "print", subst (λ t. IsValue (queries_at t)) (sym (print_behind text none)) print_is_value);
      }
      | inr some ↦ record {
        stays = λ k more e. ap queries_at (skip_stays text more some) ∙ listed.stays k more e;
        later = λ more e. subst (λ t. count (queries_at t) ≤ length more) (sym (skip_stays text more some)) (listed.later more e);
        completes = λ e. (let found = listed.completes e in (found.0, subst (λ t. IsValue (queries_at t)) (sym (skip_stays text found.0 some)) found.1));
      }
    ]

comma_listed : (comma : Bool) (cs : List ℕ) → Listed (λ t. queries_at (skip t)) cs
    → Listed (λ t. passed comma t (suc (length t)) >>= λ rest. queries_at (skip rest)) cs
comma_listed true cs listed = record { stays = listed.stays; later = listed.later; completes = listed.completes }
comma_listed false cs listed = record {
  stays = λ k more e.
      let count_is : suc (length (cs ++ more)) ≡ suc (length cs) + length more = omega (arith, length-append cs more) in
      let k_is : suc (length cs) ≡ suc k = fault_is e in
      ap (λ (n : ℕ). Err n) (count_is ∙ ap (λ n. n + length more) k_is);
  later = λ more e. absurd (omega (arith, e));
  completes = λ e. absurd (omega (arith, e));
}

after_listed : (text : List ℕ) → ((shorter : List ℕ) → length shorter < length text → Listed queries_at shorter) → Listed after text
unfolding byte_at
after_listed [] h = record {
  stays = λ k more e. absurd (let g : 0 ≡ suc k = fault_is e in omega arith);
  later = λ more e. after_within more (λ shorter short. queries_within shorter);
  completes = λ e. (codes ",print", comma_is_value);
}
after_listed (c ∷ cs) h =
    let found = comma_listed (c == 44) cs (skipped cs (h (skip cs) (omega (arith, skip_leaves cs)))) in
    record { stays = found.stays; later = found.later; completes = found.completes }

value_kept : (query : MediaQuery) (answer : Answer) → IsValue answer → IsValue (answer >>= λ more. Ok (query ∷ more))
unfolding IsValue
value_kept query (Ok found) value = tt
value_kept query (Err k) value = value

fault_kept : (query : MediaQuery) (answer : Answer) (k : ℕ) → added query answer ≡ Err k → answer ≡ Err k
fault_kept query (Ok found) k e = absurd cc
fault_kept query (Err j) k e = e

-- Nothing is left behind the query: more of it, or a comma and a query.

query_later : (text more : List ℕ) → left queries (query_at text) ≡ 0 → count (queries_at (text ++ more)) ≤ length more
query_later text more none =
    let read : left queries (query_at (text ++ more)) ≤ length more = (query_steady.at text).later more none in
    let all : count (joined (query_at (text ++ more)) follows) ≤ left queries (query_at (text ++ more)) =
    count_joined (query_at (text ++ more)) (length (text ++ more)) (query_short (text ++ more)) (λ t le. rest_within t) in
    subst (λ r. count r ≤ length more) (sym (queries_are (text ++ more))) (omega (arith, read, all))

comma_joined : (text : List ℕ) → Gives queries (codes ",print") (query_at text) → IsValue (queries_at text)
comma_joined text gives =
    let found = value_of (codes ",print") (query_at text) gives in
    let some : 0 < length (skip found.0.1) = omega (arith, ap length found.2) in
    let value : IsValue (follows found.0.1) = subst IsValue (sym (some_follow found.0.1 (shown_some found.0.1 some) ∙ ap after found.2)) comma_is_value in
    subst IsValue (sym (queries_are text ∙ ap (λ (r : Read MediaQuery). joined r follows) found.1)) (value_kept found.0.0 (follows found.0.1) value)

comma_first : Comma (codes ",print")
unfolding begins_with
comma_first = refl

query_completes : (text : List ℕ) → left queries (query_at text) ≡ 0 → (more : List ℕ) × IsValue (queries_at (text ++ more))
query_completes text none =
    let found = (query_steady.at text).completes none in
    (found.0 ++ codes ",print", comma_joined (text ++ (found.0 ++ codes ",print")) (found.1 (codes ",print") comma_first))

nothing_behind : (text : List ℕ) → left queries (query_at text) ≡ 0 → ((k : ℕ) → queries_at text ≡ Err (suc k) → ⊥) → Listed queries_at text
nothing_behind text none no_fault = record {
  stays = λ k more e. absurd (no_fault k e);
  later = λ more e. query_later text more none;
  completes = λ e. query_completes text none;
}

-- Something is left behind the query, so it stays what it is.

behind_query : (text : List ℕ) (x : MediaQuery × List ℕ) → query_at text ≡ Ok x → 0 < length (skip x.1) → Listed after (skip x.1) → Listed queries_at text
behind_query text x e some listed =
    let read : (more : List ℕ) → query_at (text ++ more) ≡ Ok (x.0, x.1 ++ more) =
    λ more. (query_steady.at text).stays more (subst (λ r. 0 < left queries r) (sym e) some) ∙ ap (on queries more) e in
    let here : queries_at text ≡ added x.0 (after (skip x.1)) =
    queries_are text ∙ ap (λ (r : Read MediaQuery). joined r follows) e ∙ ap (added x.0) (some_follow x.1 (shown_some x.1 some)) in
    let there : (more : List ℕ) → queries_at (text ++ more) ≡ added x.0 (after (skip x.1 ++ more)) =
    λ more. queries_are (text ++ more) ∙ ap (λ (r : Read MediaQuery). joined r follows) (read more)
    ∙ ap (added x.0) (some_follow (x.1 ++ more) (longer x.1 more (shown_some x.1 some)) ∙ ap after (skip_stays x.1 more some)) in
    record {
      stays = λ k more f. there more ∙ ap (added x.0) (listed.stays k more (fault_kept x.0 (after (skip x.1)) (suc k) (sym here ∙ f)));
      later = λ more f.
          subst (λ r. count r ≤ length more) (sym (there more))
          (subst (λ n. n ≤ length more) (sym (count_kept x.0 (after (skip x.1 ++ more)))) (listed.later more (sym (count_kept x.0 (after (skip x.1))) ∙ ap count (sym here) ∙ f)));
      completes = λ f.
          let found = listed.completes (sym (count_kept x.0 (after (skip x.1))) ∙ ap count (sym here) ∙ f) in
          (found.0, subst IsValue (sym (there found.0)) (value_kept x.0 (after (skip x.1 ++ found.0)) found.1));
    }

query_listed : (text : List ℕ) (read : Read MediaQuery) → query_at text ≡ read → OnValue (λ r. length r.1 ≤ length text) read
    → ((t : List ℕ) → length t ≤ length text → Listed after (skip t)) → Listed queries_at text
query_listed text (Err zero) e short behind =
    nothing_behind text (ap (left queries) e) (λ k f. let g : 0 ≡ suc k = fault_is (sym (queries_are text ∙ ap (λ (r : Read MediaQuery). joined r follows) e) ∙ f) in omega arith)
query_listed text (Err (suc j)) e short behind =
    let here : queries_at text ≡ Err (suc j) = queries_are text ∙ ap (λ (r : Read MediaQuery). joined r follows) e in
    record {
      stays = λ k more f.
          let read : query_at (text ++ more) ≡ Err (suc j + length more) = (query_steady.at text).stays more (subst (λ r. 0 < left queries r) (sym e) (omega arith)) ∙ ap (on queries more) e in
          let same : suc j ≡ suc k = fault_is (sym here ∙ f) in
          queries_are (text ++ more) ∙ ap (λ (r : Read MediaQuery). joined r follows) read ∙ ap (λ (n : ℕ). Err (n + length more)) same;
      later = λ more f. absurd (let g : suc j ≡ 0 = ap count (sym here) ∙ f in omega arith);
      completes = λ f. absurd (let g : suc j ≡ 0 = ap count (sym here) ∙ f in omega arith);
    }
query_listed text (Ok x) e short behind =
    elim (zero_or_more (length (skip x.1))) [
      | inl none ↦ nothing_behind text (ap (left queries) e ∙ none) (λ k f.
          let here : queries_at text ≡ added x.0 (follows x.1) = queries_are text ∙ ap (λ (r : Read MediaQuery). joined r follows) e in
          let fault : follows x.1 ≡ Err (suc k) = fault_kept x.0 (follows x.1) (suc k) (sym here ∙ f) in
          let g : count (follows x.1) ≡ suc k = ap count fault in
          omega (arith, rest_within x.1, g, none))
      | inr some ↦ behind_query text x e some (behind x.1 short)
    ]

queries_listed : (n : ℕ) (text : List ℕ) → length text < n → Listed queries_at text
queries_listed zero text h = absurd (omega arith)
queries_listed (suc n) text h =
    query_listed text (query_at text) refl (query_short text)
    (λ t le. after_listed (skip t) (λ shorter short. queries_listed n shorter (omega (arith, skip_leaves t, short, le, h))))

list_listed : (text : List ℕ) → Listed queries_at text
list_listed text = queries_listed (suc (length text)) text (omega arith)

-- The column.

found_list : (text : List ℕ) (answer : Answer) → IsValue answer → (found : List MediaQuery) × (with_fault (λ left. length text + 1 - left) answer ≡ Ok found)
unfolding IsValue
found_list text (Ok found) value = (found, refl)
found_list text (Err k) value = absurd value

fault_of : (text : List ℕ) (answer : Answer) (column : ℕ) → with_fault (λ left. length text + 1 - left) answer ≡ Err column → (k : ℕ) × (answer ≡ Err k) × (column ≡ length text + 1 - k)
fault_of text (Ok found) column e = absurd cc
fault_of text (Err k) column e = (k, refl, sym (fault_is e))

is_list : (text : List ℕ) → IsValue (queries_at text) → IsList text
unfolding query_list
is_list text value = found_list text (queries_at text) value

no_list : (text : List ℕ) (k : ℕ) → queries_at text ≡ Err k → IsList text → ⊥
unfolding query_list
no_list text k e list =
    let f : with_fault (λ left. length text + 1 - left) (queries_at text) ≡ Err (length text + 1 - k) = ap (with_fault (λ left. length text + 1 - left)) e in
    absurd (let g : ◌≡◌ {A = Answer} (Err (length text + 1 - k)) (Ok list.0) = sym f ∙ list.1 in cc)

column_of : (text : List ℕ) (column : ℕ) → query_list text ≡ Err column → (k : ℕ) × (queries_at text ≡ Err k) × (column ≡ length text + 1 - k)
unfolding query_list
column_of text column e = fault_of text (queries_at text) column e

count_zero_or_more : (answer : Answer) → (count answer ≡ 0) ⊎ ((k : ℕ) × (answer ≡ Err (suc k)))
count_zero_or_more (Ok found) = inl refl
count_zero_or_more (Err zero) = inl refl
count_zero_or_more (Err (suc k)) = inr (k, refl)

begins : (front rest : List ℕ) (k : ℕ) → queries_at (front ++ rest) ≡ Err k → length rest ≡ k → BeginsList front
begins front rest k e count_is =
    elim (count_zero_or_more (queries_at front)) [
      | inl none ↦ (let found = (list_listed front).completes none in (found.0, is_list (front ++ found.0) found.1))
      | inr fault ↦ absurd (let f : k ≡ suc fault.0 + length rest = fault_is (sym e ∙ (list_listed front).stays fault.0 rest fault.1) in omega arith)
    ]

no_start : (front rest : List ℕ) (k : ℕ) → queries_at (front ++ rest) ≡ Err k → length rest < k → BeginsList front → ⊥
no_start front rest k e less start =
    elim (count_zero_or_more (queries_at front)) [
      | inl none ↦ (let h : count (queries_at (front ++ rest)) ≤ length rest = (list_listed front).later rest none in let g : count (queries_at (front ++ rest)) ≡ k = ap count e in omega (arith, h, g, less))
      | inr fault ↦ no_list (front ++ start.0) (suc fault.0 + length start.0) ((list_listed front).stays fault.0 start.0 fault.1) start.1
    ]

pub first_bad : (text : List ℕ) (column : ℕ) → query_list text ≡ Err column → IsFirstBad text column
first_bad text column e =
    let found = column_of text column e in
    let few : found.0 ≤ length text = let h : count (queries_at text) ≤ length text = queries_within text in let g : count (queries_at text) ≡ found.0 = ap count found.1 in omega (arith, h, g) in
    let column_is : column ≡ length text + 1 - found.0 = found.2 in
    record {
      counted = omega (arith, few, column_is);
      within = omega (arith, few, column_is);
      before = begins (take (column - 1) text) (drop (column - 1) text) found.0 (ap queries_at (take-append-drop (column - 1) text) ∙ found.1) (length-drop (column - 1) text ∙ omega (arith, few, column_is));
      here = λ inside. no_start (take column text) (drop column text) found.0 (ap queries_at (take-append-drop column text) ∙ found.1)
          (subst (λ n. n < found.0) (sym (length-drop column text)) (omega (arith, few, column_is, inside)));
    }
