-- Entries of a table as they are kept: looking one up, entering one, taking one out.
use Rattle.std.proofs.Common.{◌≡◌, ℕ, suc, ◌+◌, ◌<◌, ◌∙◌, ap, refl, sym, subst, arith, length}
use Rattle.std.specs.Prelude.{Bool, true, false, cond, not, ◌==◌, ◌||◌, List, [], ◌∷◌, ◌++◌, map, filter, Option, Some, None, is_some}
use Rattle.std.proofs.lemmas.Bool.{eqb-true, eq-eqb}
use Rattle.std.proofs.lemmas.Option.{same_Some}
use Rattle.std.specs.List.{list_any, AllByRecursion, IsDistinct}
use Rattle.std.specs.List.Sorted.{IsStrictlySortedBy}
use Rattle.std.specs.Cmp.{IsEquivalence, nat_eq_equiv, unsigned_tied, nat_cmp_is}
use Rattle.std.specs.Map.{keys_of, lookup, remove_entry}
use Rattle.std.specs.Ordering.{nat_cmp, eq_by_cmp, match_ordering}
use Rattle.std.specs.declared.cmp.Ordering.TheVariants.{Greater}
use Rattle.std.specs.BTreeMap.{is_at, insert_entry}
use Rattle.std.proofs.lemmas.Map.{lookup-insert, none_passes_from_lookup}
use Rattle.std.proofs.lemmas.Map.Entries.{lookup-filter-keys}
use Rattle.std.proofs.lemmas.Map.Keys.{IsDistinct-from_sorted, IsDistinct-push, IsDistinct-head, IsDistinct-tail}
use Rattle.std.proofs.lemmas.Map.Made.{IsDistinct-keys_filter}
use Rattle.std.proofs.lemmas.List.{map_push}
use Rattle.std.proofs.lemmas.List.Edits.{insert_end}
use Rattle.page_model.specs.Lookups.{kept, entered as entered_in_table}
use Rattle.event_tables.specs.Entries.{Entry, has_key, numbered, IsIndexed}
use Rattle.event_tables.specs.Tables.{Bounded}
use Rattle.event_tables.proofs.Seen.{all_kept, kept_seen}

-- as the tree compares serial numbers
abbrev same_serial : ℕ → ℕ → Bool
same_serial serial other = eq_by_cmp nat_cmp serial other

compared : (serial other : ℕ) → same_serial serial other ≡ (other == serial)
compared serial other = unsigned_tied serial other ∙ nat_eq_equiv.symm serial other

weaker : {X : Type 0} (P Q : X → Type 0) → ((x : X) → P x → Q x) → (xs : List X) → AllByRecursion P xs → AllByRecursion Q xs
weaker P Q so [] all = tt
weaker P Q so (x ∷ xs) all = (so x (all.0), weaker P Q so xs (all.1))

module _ {K V : Type 0} where
  abbrev has_serial : ℕ → Entry K V → Bool
  has_serial serial entry = entry.0 == serial

  found_by : (serial : ℕ) (value : K × V) (rest : Option (K × V)) (others this that : Bool) → this ≡ that → is_some rest ≡ others → is_some (cond this (Some value) rest) ≡ (that || others)
  found_by serial value rest others true true one more = refl
  found_by serial value rest others false false one more = more
  found_by serial value rest others true false one more = cc
  found_by serial value rest others false true one more = cc

  pub any_serial : (serial : ℕ) (entries : List (Entry K V)) → is_some (lookup (is_at (nat_cmp serial)) entries) ≡ list_any (has_serial serial) entries
  any_serial serial [] = refl
  any_serial serial (entry ∷ entries) =
      found_by serial (entry.1) (lookup (is_at (nat_cmp serial)) entries) (list_any (has_serial serial) entries) (is_at (nat_cmp serial) (entry.0)) (has_serial serial entry)
      (compared serial (entry.0)) (any_serial serial entries)

  -- what holds of each serial number holds of one that is found by its key
  at_serial : (P : ℕ → Type 0) (test : K → Bool) (serial : ℕ) (entries : List (Entry K V)) → AllByRecursion P (keys_of entries) → lookup test (numbered entries) ≡ Some serial → P serial
  at_serial P test serial [] all is = cc
  at_serial P test serial (entry ∷ entries) all is = by (test (entry.1.0)) (at_serial P test serial entries (all.1)) is
    where
      by : (passes : Bool) → (lookup test (numbered entries) ≡ Some serial → P serial) → cond passes (Some (entry.0)) (lookup test (numbered entries)) ≡ Some serial → P serial
      by true later one = subst P (same_Some _ _ one) (all.0)
      by false later one = later one

  -- and what holds of each key of the key of one that is found by its serial number
  at_key : (P : K → Type 0) (test : ℕ → Bool) (key : K) (value : V) (entries : List (Entry K V)) → AllByRecursion P (keys_of (numbered entries)) → lookup test entries ≡ Some (key, value) → P key
  at_key P test key value [] all is = cc
  at_key P test key value (entry ∷ entries) all is = by (test (entry.0)) (at_key P test key value entries (all.1)) is
    where
      by : (passes : Bool) → (lookup test entries ≡ Some (key, value) → P key) → cond passes (Some (entry.1)) (lookup test entries) ≡ Some (key, value) → P key
      by true later one = subst P (ap (λ (it : K × V). it.0) (same_Some _ _ one)) (all.0)
      by false later one = later one

  none_any : {X : Type 0} (seen : Entry K V → X) (test : X → Bool) (entries : List (Entry K V)) → AllByRecursion (λ x. test x ≡ false) (map seen entries) → list_any (λ entry. test (seen entry)) entries ≡ false
  none_any seen test [] all = refl
  none_any seen test (entry ∷ entries) all = ap (λ first. first || list_any (λ each. test (seen each)) entries) (all.0) ∙ none_any seen test entries (all.1)

  -- no later entry has the serial number of the first
  none_later : (entry : Entry K V) (entries : List (Entry K V)) → IsDistinct same_serial (keys_of (entry ∷ entries)) → list_any (has_serial (entry.0)) entries ≡ false
  none_later entry entries distinct =
      none_any (λ (each : Entry K V). each.0) (λ n. n == entry.0) entries
      (weaker _ _ (λ n other. sym (compared (entry.0) n) ∙ other) _ (IsDistinct-head same_serial (entry.0) _ distinct))

  -- the tree takes out all that have the serial number
  pub all_taken : (serial : ℕ) (entries : List (Entry K V)) → IsDistinct same_serial (keys_of entries) → remove_entry (is_at (nat_cmp serial)) entries ≡ filter (λ entry. not (has_serial serial entry)) entries
  all_taken serial [] distinct = refl
  all_taken serial (entry ∷ entries) distinct =
      by (is_at (nat_cmp serial) (entry.0)) (has_serial serial entry) refl (compared serial (entry.0)) (all_taken serial entries (IsDistinct-tail same_serial (entry.0) _ distinct))
    where
      by : (this that : Bool) → has_serial serial entry ≡ that → this ≡ that → remove_entry (is_at (nat_cmp serial)) entries ≡ filter (λ each. not (has_serial serial each)) entries → cond this entries (entry ∷ remove_entry (is_at (nat_cmp serial)) entries) ≡ cond (not that) (entry ∷ filter (λ each. not (has_serial serial each)) entries) (filter (λ each. not (has_serial serial each)) entries)
      by true true is one later = sym (all_kept (has_serial serial) entries (subst (λ n. list_any (has_serial n) entries ≡ false) (eqb-true (entry.0) serial is) (none_later entry entries distinct)))
      by false false is one later = ap (λ others. entry ∷ others) later
      by true false is one later = cc
      by false true is one later = cc

  -- an entry goes last under the next serial number
  pub entered_last : (given : ℕ) (value : K × V) (entries : List (Entry K V)) → AllByRecursion (λ (serial : ℕ). serial < given) (keys_of entries) → insert_entry nat_cmp entries given value ≡ entries ++ (given, value) ∷ []
  entered_last given value [] below = refl
  entered_last given value (entry ∷ entries) below =
      ap (λ order. match_ordering order ((given, value) ∷ entry ∷ entries) ((entry.0, value) ∷ entries) (entry ∷ insert_entry nat_cmp entries given value)) (sym (nat_cmp_is given (entry.0) Greater (below.0)))
      ∙ ap (λ others. entry ∷ others) (entered_last given value entries (below.1))

  module _ (same : K → K → Bool) (laws : IsEquivalence same) where
    pub any_key : (key : K) (entries : List (Entry K V)) → is_some (lookup (same key) (numbered entries)) ≡ list_any (has_key same key) entries
    any_key key [] = refl
    any_key key (entry ∷ entries) = by (same key (entry.1.0)) (any_key key entries)
      where
        by : (passes : Bool) → is_some (lookup (same key) (numbered entries)) ≡ list_any (has_key same key) entries → is_some (cond passes (Some (entry.0)) (lookup (same key) (numbered entries))) ≡ (passes || list_any (has_key same key) entries)
        by true later = refl
        by false later = later

    none_under : (key : K) (entry : Entry K V) (entries : List (Entry K V)) → same key (entry.1.0) ≡ true → IsDistinct same (keys_of (numbered (entry ∷ entries))) → list_any (has_key same key) entries ≡ false
    none_under key entry entries is apart =
        none_any (λ (each : Entry K V). each.1.0) (same key) entries
        (subst (AllByRecursion (λ other. same key other ≡ false)) (names entries)
        (weaker _ _ (λ other differs. laws.congr key (entry.1.0) other is ∙ differs) _ (IsDistinct-head same (entry.1.0) _ apart)))
      where
        names : (these : List (Entry K V)) → keys_of (numbered these) ≡ map (λ (each : Entry K V). each.1.0) these
        names [] = refl
        names (first ∷ these) = ap (λ others. first.1.0 ∷ others) (names these)

    -- the entries that have the serial number found by a key are those that have the key
    pub one_entry : (key : K) (serial : ℕ) (entries : List (Entry K V)) → IsDistinct same_serial (keys_of entries) → IsDistinct same (keys_of (numbered entries)) → lookup (same key) (numbered entries) ≡ Some serial
        → filter (λ entry. not (has_serial serial entry)) entries ≡ filter (λ entry. not (has_key same key entry)) entries
    one_entry key serial [] distinct apart is = refl
    one_entry key serial (entry ∷ entries) distinct apart is = by (same key (entry.1.0)) refl is (one_entry key serial entries (IsDistinct-tail same_serial (entry.0) _ distinct) (IsDistinct-tail same (entry.1.0) _ apart))
      where
        by : (passes : Bool) → same key (entry.1.0) ≡ passes → cond passes (Some (entry.0)) (lookup (same key) (numbered entries)) ≡ Some serial
            → (lookup (same key) (numbered entries) ≡ Some serial → filter (λ each. not (has_serial serial each)) entries ≡ filter (λ each. not (has_key same key each)) entries)
            → cond (not (has_serial serial entry)) (entry ∷ filter (λ each. not (has_serial serial each)) entries) (filter (λ each. not (has_serial serial each)) entries) ≡ cond (not passes) (entry ∷ filter (λ each. not (has_key same key each)) entries) (filter (λ each. not (has_key same key each)) entries)
        by true passes one later =
            let number : entry.0 ≡ serial = same_Some _ _ one in
            ap (λ b. cond (not b) (entry ∷ filter (λ each. not (has_serial serial each)) entries) (filter (λ each. not (has_serial serial each)) entries)) (eq-eqb (entry.0) serial number)
            ∙ all_kept (has_serial serial) entries (subst (λ n. list_any (has_serial n) entries ≡ false) number (none_later entry entries distinct))
            ∙ sym (all_kept (has_key same key) entries (none_under key entry entries passes apart))
        by false passes one later =
            ap (λ b. cond (not b) (entry ∷ filter (λ each. not (has_serial serial each)) entries) (filter (λ each. not (has_serial serial each)) entries))
            (nat_eq_equiv.symm (entry.0) serial ∙ sym (compared (entry.0) serial) ∙ at_serial (λ n. same_serial (entry.0) n ≡ false) (same key) serial entries (IsDistinct-head same_serial (entry.0) _ distinct) one)
            ∙ ap (λ others. entry ∷ others) (later one)

    -- an entry that is found by its serial number is found by its key
    pub under_key : (key : K) (value : V) (serial : ℕ) (entries : List (Entry K V)) → IsDistinct same (keys_of (numbered entries)) → lookup (is_at (nat_cmp serial)) entries ≡ Some (key, value)
        → lookup (same key) (numbered entries) ≡ Some serial
    under_key key value serial [] apart is = cc
    under_key key value serial (entry ∷ entries) apart is =
        by (is_at (nat_cmp serial) (entry.0)) refl is (under_key key value serial entries (IsDistinct-tail same (entry.1.0) _ apart))
      where
        by : (passes : Bool) → is_at (nat_cmp serial) (entry.0) ≡ passes → cond passes (Some (entry.1)) (lookup (is_at (nat_cmp serial)) entries) ≡ Some (key, value)
            → (lookup (is_at (nat_cmp serial)) entries ≡ Some (key, value) → lookup (same key) (numbered entries) ≡ Some serial)
            → cond (same key (entry.1.0)) (Some (entry.0)) (lookup (same key) (numbered entries)) ≡ Some serial
        by true passes one later =
            ap (λ b. cond b (Some (entry.0)) (lookup (same key) (numbered entries))) (ap (λ (it : K × V). same key (it.0)) (same_Some _ _ one) ∙ laws.refl key)
            ∙ ap Some (eqb-true (entry.0) serial (sym (compared serial (entry.0)) ∙ passes))
        by false passes one later =
            ap (λ b. cond b (Some (entry.0)) (lookup (same key) (numbered entries)))
            (laws.symm key (entry.1.0) ∙ at_key (λ other. same (entry.1.0) other ≡ false) (is_at (nat_cmp serial)) key value entries (IsDistinct-head same (entry.1.0) _ apart) one)
            ∙ later one

    -- what is left once the entry of a key was taken out by its serial number
    kept_below : (given : ℕ) (test : Entry K V → Bool) (entries : List (Entry K V)) → AllByRecursion (λ (serial : ℕ). serial < given) (keys_of entries) → AllByRecursion (λ (serial : ℕ). serial < given) (keys_of (filter test entries))
    kept_below given test [] all = tt
    kept_below given test (entry ∷ entries) all = by (test entry) (kept_below given test entries (all.1))
      where
        by : (passes : Bool) → AllByRecursion (λ (serial : ℕ). serial < given) (keys_of (filter test entries)) → AllByRecursion (λ (serial : ℕ). serial < given) (keys_of (cond passes (entry ∷ filter test entries) (filter test entries)))
        by true later = (all.0, later)
        by false later = later

    others_found : (key other : K) (entries : List (Entry K V)) → lookup (same other) (numbered (filter (λ entry. not (has_key same key entry)) entries)) ≡ cond (same key other) None (lookup (same other) (numbered entries))
    others_found key other entries =
        ap (lookup (same other)) (kept_seen (λ (entry : Entry K V). (entry.1.0, entry.0)) (λ (named : K × ℕ). not (same key (named.0))) entries)
        ∙ lookup-filter-keys (same other) (λ named. not (same key named)) (not (same key other))
        (λ named is. ap not (laws.symm key named ∙ sym (laws.congr other named key is) ∙ laws.symm other key)) (numbered entries)
        ∙ turned (same key other) (lookup (same other) (numbered entries))
      where
        turned : (passes : Bool) (it : Option ℕ) → cond (not passes) it None ≡ cond passes None it
        turned true it = refl
        turned false it = refl

    pub record IsTaken (given : ℕ) (key : K) (serial : ℕ) (entries after : List (Entry K V)) (serials : List (K × ℕ)) : Type 0 where
      pub by_serial : after ≡ filter (λ entry. not (has_serial serial entry)) entries
      pub by_key : after ≡ filter (λ entry. not (has_key same key entry)) entries
      pub indexed : IsIndexed same given after serials

    pub taken : (given : ℕ) (key : K) (serial : ℕ) (entries after : List (Entry K V)) (before serials : List (K × ℕ)) → IsIndexed same given entries before → lookup (same key) (numbered entries) ≡ Some serial
        → after ≡ remove_entry (is_at (nat_cmp serial)) entries → IsStrictlySortedBy nat_cmp (keys_of after) → ((other : K) → lookup (same other) serials ≡ cond (same key other) None (lookup (same other) before))
        → IsTaken given key serial entries after serials
    taken given key serial entries after before serials was is left ordered updated =
        let distinct : IsDistinct same_serial (keys_of entries) = IsDistinct-from_sorted nat_cmp _ (was.ordered) in
        let one : after ≡ filter (λ entry. not (has_serial serial entry)) entries = left ∙ all_taken serial entries distinct in
        let other : after ≡ filter (λ entry. not (has_key same key entry)) entries = one ∙ one_entry key serial entries distinct (was.apart) is in
        record {
          by_serial = one;
          by_key = other;
          indexed = record {
            ordered = ordered;
            below = subst (λ these. AllByRecursion (λ (n : ℕ). n < given) (keys_of these)) (sym one) (kept_below given (λ entry. not (has_serial serial entry)) entries (was.below));
            apart = subst (λ these. IsDistinct same (keys_of (numbered these))) (sym other)
                (subst (λ these. IsDistinct same (keys_of these)) (sym (kept_seen (λ (entry : Entry K V). (entry.1.0, entry.0)) (λ (named : K × ℕ). not (same key (named.0))) entries))
                (IsDistinct-keys_filter same (λ (named : K × ℕ). not (same key (named.0))) (numbered entries) (was.apart)));
            found = λ name. updated name ∙ ap (cond (same key name) None) (was.found name) ∙ sym (others_found key name entries) ∙ ap (λ these. lookup (same name) (numbered these)) (sym other);
          };
        }

    more_below : (given : ℕ) (value : K × V) (entries : List (Entry K V)) → AllByRecursion (λ (serial : ℕ). serial < given) (keys_of entries) → AllByRecursion (λ (serial : ℕ). serial < given + 1) (keys_of (entries ++ (given, value) ∷ []))
    more_below given value [] all = (omega arith, tt)
    more_below given value (entry ∷ entries) all = (omega (arith, all.0), more_below given value entries (all.1))

    pub entered : (given : ℕ) (key : K) (value : V) (entries after : List (Entry K V)) (before serials : List (K × ℕ)) → IsIndexed same given entries before → list_any (has_key same key) entries ≡ false
        → after ≡ insert_entry nat_cmp entries given (key, value) → IsStrictlySortedBy nat_cmp (keys_of after) → ((other : K) → lookup (same other) serials ≡ cond (same key other) (Some given) (lookup (same other) before))
        → IsIndexed same (given + 1) after serials
    entered given key value entries after before serials was free put ordered updated =
        let last : after ≡ entries ++ (given, (key, value)) ∷ [] = put ∙ entered_last given (key, value) entries (was.below) in
        let names : numbered after ≡ numbered entries ++ (key, given) ∷ [] = ap numbered last ∙ map_push (λ (entry : Entry K V). (entry.1.0, entry.0)) entries (given, (key, value)) in
        let none : lookup (same key) (numbered entries) ≡ None = nothing (lookup (same key) (numbered entries)) (any_key key entries ∙ free) in
        record {
          ordered = ordered;
          below = subst (λ these. AllByRecursion (λ (n : ℕ). n < given + 1) (keys_of these)) (sym last) (more_below given (key, value) entries (was.below));
          apart = subst (λ these. IsDistinct same these) (sym (ap keys_of names ∙ map_push (λ (named : K × ℕ). named.0) (numbered entries) (key, given)))
              (IsDistinct-push laws (keys_of (numbered entries)) key (was.apart) (sym (any_name entries) ∙ free));
          found = λ name. updated name ∙ ap (cond (same key name) (Some given)) (was.found name)
              ∙ sym (ap (lookup (same name)) (names ∙ sym (insert_end (numbered entries) (key, given)))
              ∙ lookup-insert laws key given name (numbered entries) (length (numbered entries)) (none_passes_from_lookup (same key) (numbered entries) none));
        }
      where
        nothing : (it : Option ℕ) → is_some it ≡ false → it ≡ None
        nothing None fails = refl
        nothing (Some n) fails = cc

        any_name : (these : List (Entry K V)) → list_any (has_key same key) these ≡ list_any (same key) (keys_of (numbered these))
        any_name [] = refl
        any_name (first ∷ these) = ap (λ others. same key (first.1.0) || others) (any_name these)

-- the table as it is kept
module _ {A : Type 0} where
  abbrev pub table_of : (given most : ℕ) → List A → Bounded A
  table_of given most held = record { part = record { given = given; held = held }; most = most }

  pub kept_in : (test : A → Bool) (given most : ℕ) (entries after : List A) (it : Bounded A) → after ≡ filter test entries → table_of given most entries ≡ it → table_of given most after ≡ record it { part = kept test (it.part) }
  kept_in test given most entries after it same view =
      ap (table_of given most) same ∙ ap (λ (now : Bounded A). record now { part = kept test (now.part) }) view

  pub entered_in : (make : ℕ → A) (given most : ℕ) (entries after : List A) (it : Bounded A) → after ≡ entries ++ make given ∷ [] → table_of given most entries ≡ it → table_of (given + 1) most after ≡ record it { part = entered_in_table make (it.part) }
  entered_in make given most entries after it same view =
      let next : given + 1 ≡ suc given = omega arith in
      ap (table_of (given + 1) most) same ∙ ap (λ n. table_of n most (entries ++ make given ∷ [])) next
      ∙ ap (λ (now : Bounded A). record now { part = entered_in_table make (now.part) }) view

  -- where nothing passes a test, taking out what passes it changes nothing
  pub none_out : (test : A → Bool) (it : Bounded A) → list_any test (it.part.held) ≡ false → it ≡ record it { part = kept (λ each. not (test each)) (it.part) }
  none_out test it none = sym (ap (λ held. record it { part = record (it.part) { held = held } }) (all_kept test (it.part.held) none))
