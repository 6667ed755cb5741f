-- The steps that an update takes, one observer after the other.
use Rattle.std.proofs.Common.{◌≡◌, ◌∙◌, ℕ, zero, suc, ◌<◌, ◌≤◌, ◌+◌, ◌-◌, ◌*◌, Bool, true, false, cond, ◌&&◌, nat_lt, nat_le, min, List, [], ◌∷◌, ◌++◌, length, take, Option, Some, None, refl, ap, sym, subst, inl, inr, arith, append-nil}
use Rattle.std.specs.Prelude.{All, sum_by, count_by}
use Rattle.std.specs.List.{flat_map, list_all}
use Rattle.std.proofs.lemmas.Bool.{false≢true}
use Rattle.std.proofs.lemmas.Bool.Decides.{nat_tests}
use Rattle.std.proofs.lemmas.Grind.{flat_map-append}
use Rattle.std.proofs.lemmas.List.{take_all}
use Rattle.std.proofs.lemmas.List.Concat.{flat_map-cons}
use Rattle.std.proofs.lemmas.List.Elements.{All-head, All-tail, All-weaker}
use Rattle.std.proofs.lemmas.List.Sums.{sum_by-cons, sum_by-append}
use Rattle.script_model.specs.Margins.{Margins}
use Rattle.page_model.specs.Shown.{Shown}
use Rattle.page_model.specs.World.{IntersectionObserver, IntersectionObservers}
use Rattle.page_model.specs.Lookups.{intersection_observer_at}
use Rattle.page_model.specs.Intersections.{is_rooted_in, places_from}
use Rattle.element_tree.specs.declared.container.Container.{Container}
use Rattle.clip_chain.specs.Scenes.{Scene}
use Rattle.clip_chain.specs.Worlds.{scene_of}
use Rattle.intersection_observer.specs.Places.{Standing as Place}
use Rattle.kept_clips.specs.declared.pair.Pair.{Pair}
use Rattle.kept_clips.specs.declared.pair.Computed.{Computed}
use Rattle.kept_clips.specs.Touches.{Touched, last_number, last_touch}
use Rattle.kept_clips.specs.Held.{HeldClips, pair_of}
use Rattle.kept_clips.specs.Chains.{chain_of, is_untouched, stands}
use Rattle.kept_clips.specs.Numbers.{AreNumbered}
use Rattle.kept_clips.specs.Seen.{Seen}
use Rattle.kept_clips.specs.Looked.{ChangesByLooks}
use Rattle.candidate_index.specs.declared.scene.Standing.{Standing}
use Rattle.candidate_index.specs.declared.scene.Standing.TheVariants.{Apart, NoBox, Chained}
use Rattle.candidate_index.specs.Registrations.{place_of, observer_of, serials_at, standing_for}
use Rattle.candidate_index.specs.Asked.{steps_if}
use Rattle.candidate_index.specs.Held.{kept_of}
use Rattle.kept_findings.specs.Held.{HeldFindings}
use Rattle.kept_findings.specs.Walks.{spots_between}
use Rattle.page_geometry.specs.Scenes.{standings_of}
use Rattle.intersection_update.specs.Updating.{Carried}
use Rattle.intersection_update.specs.Keeping.{HaveChains, is_stale_in, StandsAt}
use Rattle.intersection_update.specs.Steps.{stale_count, spots_anew, times_computed, steps_at, most_steps}
use Rattle.intersection_update.proofs.Carried.{place_still, root_still, stale_still, steps_still}
use Rattle.intersection_update.proofs.Keeping.{stale_by, watcher_is}
use Rattle.intersection_update.proofs.Numbers.{first_numbers, next_number}

-- sums over lists

sum_at_most : (f g : ℕ → ℕ) → ((n : ℕ) → f n ≤ g n) → (ns : List ℕ) → sum_by f ns ≤ sum_by g ns
sum_at_most f g each [] = omega arith
sum_at_most f g each (n ∷ ns) = let one = each n in let rest = sum_at_most f g each ns in omega (arith, one, rest, sum_by-cons f n ns, sum_by-cons g n ns)

sum_same : (f g : ℕ → ℕ) (ns : List ℕ) → All (λ n. f n ≡ g n) ns → sum_by f ns ≡ sum_by g ns
sum_same f g [] all = refl
sum_same f g (n ∷ ns) all =
    sum_by-cons f n ns ∙ (λ i. All-head (λ n. f n ≡ g n) n ns all i + sum_same f g ns (All-tail (λ n. f n ≡ g n) n ns all) i) ∙ sym (sum_by-cons g n ns)

-- touches that came later

-- each spot was touched last no earlier
abbrev pub AreLater : Touched → Touched → Type 0
AreLater before now = (spot : Container) → last_touch before spot ≤ last_touch now spot

le_then : (a b c : ℕ) → a ≤ b → nat_le b c ≡ true → nat_le a c ≡ true
le_then a b c less is = grind (arith, nat_tests)

untouched_one : (before now : Touched) → AreLater before now → (since : ℕ) (spot : Container) (others others_now : Bool) → (others_now ≡ true → others ≡ true) → (one : Bool) → nat_le (last_touch now spot) since ≡ one →
    (one && others_now) ≡ true → (is_untouched before since spot && others) ≡ true
untouched_one before now later since spot others others_now then true is rest = ap (λ b. b && others) (le_then (last_touch before spot) (last_touch now spot) since (later spot) is) ∙ then rest
untouched_one before now later since spot others others_now then false is rest = absurd (false≢true rest)

untouched_before : (before now : Touched) → AreLater before now → (since : ℕ) (spots : List Container) → list_all (is_untouched now since) spots ≡ true → list_all (is_untouched before since) spots ≡ true
untouched_before before now later since [] all = refl
untouched_before before now later since (spot ∷ spots) all =
    untouched_one before now later since spot (list_all (is_untouched before since) spots) (list_all (is_untouched now since) spots) (untouched_before before now later since spots) (nat_le (last_touch now spot) since) refl all

stands_before : (before now : Touched) → AreLater before now → (computed : Option Computed) (chain : List Container) → stands now computed chain ≡ true → stands before computed chain ≡ true
stands_before before now later None chain is = is
stands_before before now later (Some c) chain is = by_number (nat_lt c.touches last_number) is
  where
    by_number : (b : Bool) → (b && list_all (is_untouched now (c.touches)) chain) ≡ true → (b && list_all (is_untouched before (c.touches)) chain) ≡ true
    by_number true all = untouched_before before now later (c.touches) chain all
    by_number false all = all

fewer : (a b : Bool) (n : ℕ) → (b ≡ true → a ≡ true) → cond a 0 n ≤ cond b 0 n
fewer true b n then = omega arith
fewer false true n then = absurd (false≢true (then refl))
fewer false false n then = omega arith

steps_later : (s : Standing) (between : List Container) (serial : ℕ) (clips : HeldClips) (before now : Touched) → AreLater before now → steps_if s between serial (record clips { touches = before }) ≤ steps_if s between serial (record clips { touches = now })
steps_later Apart between serial clips before now later = omega arith
steps_later NoBox between serial clips before now later = omega arith
steps_later Chained between serial clips before now later =
    let pair : Pair = pair_of clips serial in
    fewer (stands before pair.computed (chain_of pair between)) (stands now pair.computed (chain_of pair between)) (length between) (stands_before before now later pair.computed (chain_of pair between))

-- looks make none earlier
later_looked : (scene : Scene) (before now : Seen) (was held : Touched) → ((spot : Container) → last_touch was spot ≤ was.count) → was.count ≤ last_number → ChangesByLooks scene before now was held → AreLater was held
later_looked scene before now was held numbered counted changes spot = elim (changes.each spot) [
  | inl left ↦ let same = left.touch in omega (arith, same)
  | inr anew ↦ let since = anew.touch in let early = numbered spot in raised (last_touch was spot) was.count last_number (last_touch held spot) early counted since
]
  where
    raised : (touch count last now : ℕ) → touch ≤ count → count ≤ last → min (suc count) last ≤ now → touch ≤ now
    raised touch count last now early counted since = omega arith

-- a pair that stays takes as many steps
steps_pair : (s : Standing) (between : List Container) (serial : ℕ) (touches : Touched) (a b : HeldClips) → pair_of a serial ≡ pair_of b serial →
    steps_if s between serial (record a { touches = touches }) ≡ steps_if s between serial (record b { touches = touches })
steps_pair Apart between serial touches a b same = refl
steps_pair NoBox between serial touches a b same = refl
steps_pair Chained between serial touches a b same = ap (λ (p : Pair). cond (stands touches p.computed (chain_of p between)) 0 (length between)) same

-- one observer after the other ------------------------------------------------------------------------------------------------------

by_both : (early late : Bool) (from steps more c1 c2 s1 s1_now s2 c s : ℕ) → (late ≡ true → early ≡ true) → s1 ≤ s1_now → c ≡ c1 + c2 → s ≡ s1_now + s2 →
    steps ≤ from + (c1 + cond early 1 2 * s1) → more ≤ steps + (c2 + cond late 1 2 * s2) → more ≤ from + (c + cond late 1 2 * s)
by_both true true from steps more c1 c2 s1 s1_now s2 c s then less cs ss one two = omega (arith, less, cs, ss, one, two)
by_both true false from steps more c1 c2 s1 s1_now s2 c s then less cs ss one two = omega (arith, less, cs, ss, one, two)
by_both false true from steps more c1 c2 s1 s1_now s2 c s then less cs ss one two = absurd (false≢true (then refl))
by_both false false from steps more c1 c2 s1 s1_now s2 c s then less cs ss one two = omega (arith, less, cs, ss, one, two)

by_part : (once : Bool) (c1 c2 s1 s2 c s : ℕ) → c ≡ c1 + c2 → s ≡ s1 + s2 → c1 + cond once 1 2 * s1 ≤ c + cond once 1 2 * s
by_part true c1 c2 s1 s2 c s cs ss = omega (arith, cs, ss)
by_part false c1 c2 s1 s2 c s cs ss = omega (arith, cs, ss)

lt_before : (a b c : ℕ) → a ≤ b → nat_lt b c ≡ true → nat_lt a c ≡ true
lt_before a b c less is = grind (arith, nat_tests)

module _ (shown : Shown) (margins : List Margins) (chained : HaveChains shown) (was : IntersectionObservers) where
  abbrev standing : ℕ → Standing
  standing serial = standing_for (standings_of shown) was serial

  abbrev between : ℕ → List Container
  between serial = spots_between (scene_of shown) (standings_of shown) chained was serial

  steps_both : (xs ys : List ℕ) (old now next : HeldFindings) (from steps more : ℕ) → now.clips.touches.count ≤ next.clips.touches.count → AreLater now.clips.touches next.clips.touches →
      All (λ s. kept_of now.kept s ≡ kept_of old.kept s) ys → All (λ s. pair_of now.clips s ≡ pair_of old.clips s) ys →
      steps ≤ from + steps_at shown margins chained was xs old now → more ≤ steps + steps_at shown margins chained was ys now next → more ≤ from + steps_at shown margins chained was (xs ++ ys) old next
  steps_both xs ys old now next from steps more count later kept pairs one two =
      let once : HeldFindings → ℕ → ℕ = λ it serial. cond (is_stale_in shown margins chained was it.kept serial) 1 0 in
      let stale_same : stale_count shown margins chained was now ys ≡ stale_count shown margins chained was old ys =
      sum_same (once now) (once old) ys
      (All-weaker (λ s. kept_of now.kept s ≡ kept_of old.kept s) (λ s. once now s ≡ once old s)
      (λ s same. ap (λ (b : Bool). cond b 1 0) (stale_by shown margins chained was old.kept now.kept s (is_stale_in shown margins chained was old.kept s) same refl)) ys kept) in
      let spots_same : sum_by (spots_anew shown chained was now next) ys ≡ sum_by (spots_anew shown chained was old next) ys =
      sum_same (spots_anew shown chained was now next) (spots_anew shown chained was old next) ys
      (All-weaker (λ s. pair_of now.clips s ≡ pair_of old.clips s) (λ s. spots_anew shown chained was now next s ≡ spots_anew shown chained was old next s)
      (λ s same. steps_pair (standing s) (between s) s next.clips.touches now.clips old.clips same) ys pairs) in
      by_both (nat_lt now.clips.touches.count last_number) (nat_lt next.clips.touches.count last_number) from steps more
      (stale_count shown margins chained was old xs) (stale_count shown margins chained was now ys)
      (sum_by (spots_anew shown chained was old now) xs) (sum_by (spots_anew shown chained was old next) xs) (sum_by (spots_anew shown chained was now next) ys)
      (stale_count shown margins chained was old (xs ++ ys)) (sum_by (spots_anew shown chained was old next) (xs ++ ys))
      (lt_before now.clips.touches.count next.clips.touches.count last_number count)
      (sum_at_most (spots_anew shown chained was old now) (spots_anew shown chained was old next)
      (λ s. steps_later (standing s) (between s) s old.clips now.clips.touches next.clips.touches later) xs)
      (sum_by-append (once old) xs ys ∙ ap (λ n. stale_count shown margins chained was old xs + n) (sym stale_same))
      (sum_by-append (spots_anew shown chained was old next) xs ys ∙ ap (λ n. sum_by (spots_anew shown chained was old next) xs + n) (sym spots_same))
      one two

  -- for some of them no more than for all
  steps_part : (xs ys : List ℕ) (old now : HeldFindings) → steps_at shown margins chained was xs old now ≤ steps_at shown margins chained was (xs ++ ys) old now
  steps_part xs ys old now =
      let once : ℕ → ℕ = λ serial. cond (is_stale_in shown margins chained was old.kept serial) 1 0 in
      by_part (nat_lt now.clips.touches.count last_number)
      (stale_count shown margins chained was old xs) (stale_count shown margins chained was old ys)
      (sum_by (spots_anew shown chained was old now) xs) (sum_by (spots_anew shown chained was old now) ys)
      (stale_count shown margins chained was old (xs ++ ys)) (sum_by (spots_anew shown chained was old now) (xs ++ ys))
      (sum_by-append once xs ys) (sum_by-append (spots_anew shown chained was old now) xs ys)

module _ (shown : Shown) (margins : List Margins) (chained : HaveChains shown) (document : ℕ) (was : IntersectionObservers) where
  -- the registrations of so many observers
  abbrev first_serials : ℕ → List ℕ
  first_serials number = flat_map (serials_at was) (first_numbers shown.tree document number (was.made))

  more_serials : (number : ℕ) (is : Bool) → number < length was.made → is ≡ is_rooted_in shown.tree document (intersection_observer_at was number).root →
      first_serials (number + 1) ≡ first_serials number ++ cond is (serials_at was number) []
  more_serials number is there rooted =
      let numbers : List ℕ = first_numbers shown.tree document number (was.made) in
      ap (flat_map (serials_at was)) (sym (next_number shown.tree document number was is numbers (numbers ++ cond is (number ∷ []) []) there rooted refl refl))
      ∙ flat_map-append (serials_at was) numbers (cond is (number ∷ []) [])
      ∙ ap (λ (these : List ℕ). first_serials number ++ these) (one is)
    where
      one : (b : Bool) → flat_map (serials_at was) (cond b (number ∷ []) []) ≡ cond b (serials_at was number) []
      one true = flat_map-cons (serials_at was) number [] ∙ append-nil (serials_at was number)
      one false = refl

  -- so many observers' registrations are paid for, and what is kept of those of later ones is as it was, and the clips of another
  -- document's
  pub record Totals (number : ℕ) (old now : HeldFindings) (from steps : ℕ) : Type 0 where
    pub paid : steps ≤ from + steps_at shown margins chained was (first_serials number) old now
    pub kept : (serial : ℕ) → number ≤ (place_of was serial).watcher → kept_of now.kept serial ≡ kept_of old.kept serial
    pub pairs : (serial : ℕ) → number ≤ (place_of was serial).watcher → pair_of now.clips serial ≡ pair_of old.clips serial
    pub apart : (serial : ℕ) → is_rooted_in shown.tree document (observer_of was serial).root ≡ false → pair_of now.clips serial ≡ pair_of old.clips serial

  pub totals_skip : (it : IntersectionObservers) → Carried was it → (number : ℕ) (old now : HeldFindings) (from steps : ℕ) → number < length was.made →
      is_rooted_in shown.tree document (intersection_observer_at it number).root ≡ false → Totals number old now from steps → Totals (number + 1) old now from steps
  totals_skip it carried number old now from steps there apart so_far = record {
    paid = subst (λ (these : List ℕ). steps ≤ from + steps_at shown margins chained was these old now)
        (sym (append-nil (first_serials number)) ∙ sym (more_serials number false there (sym apart ∙ ap (is_rooted_in shown.tree document) (carried.alike number).root))) so_far.paid;
    kept = λ serial later. so_far.kept serial (omega (arith, later));
    pairs = λ serial later. so_far.pairs serial (omega (arith, later));
    apart = so_far.apart;
  }

  module _ (it : IntersectionObservers) (carried : Carried was it) (number : ℕ) (old now next : HeldFindings) (from steps more : ℕ) where
    here : (serial : ℕ) → (place_of it serial).watcher ≡ (place_of was serial).watcher
    here serial = ap (λ (p : Place). p.watcher) (place_still was it carried serial)

    same_steps : steps_at shown margins chained it (serials_at it number) now next ≡ steps_at shown margins chained was (serials_at was number) now next
    same_steps = λ i.
        count_by (λ s. stale_still was it carried s (scene_of shown) (standings_of shown) chained margins now.kept i) (carried.listed number i)
        + times_computed next.clips.touches * sum_by (λ s. steps_still was it carried s (scene_of shown) (standings_of shown) chained (record (now.clips) { touches = next.clips.touches }) i) (carried.listed number i)

    module _ (there : number < length was.made) (rooted : is_rooted_in shown.tree document (intersection_observer_at it number).root ≡ true) (so_far : Totals number old now from steps) where
      -- also where it stops at this one
      pub paid_here : AreNumbered now.clips → ChangesByLooks (scene_of shown) now.seen next.seen now.clips.touches next.clips.touches →
          All (λ serial. StandsAt it number serial) (serials_at it number) → more ≤ steps + steps_at shown margins chained it (serials_at it number) now next →
          more ≤ from + steps_at shown margins chained was (first_serials (number + 1)) old next
      paid_here numbered changes listed taken =
          let its : All (λ s. (place_of was s).watcher ≡ number) (serials_at was number) =
          subst (All (λ s. (place_of was s).watcher ≡ number)) (carried.listed number)
          (All-weaker (λ s. StandsAt it number s) (λ s. (place_of was s).watcher ≡ number) (λ s stands. sym (here s) ∙ watcher_is it number s stands) (serials_at it number) listed) in
          subst (λ (these : List ℕ). more ≤ from + steps_at shown margins chained was these old next)
          (sym (more_serials number true there (sym rooted ∙ ap (is_rooted_in shown.tree document) (carried.alike number).root)))
          (steps_both shown margins chained was (first_serials number) (serials_at was number) old now next from steps more changes.count
          (later_looked (scene_of shown) now.seen next.seen now.clips.touches next.clips.touches numbered.touched numbered.counted changes)
          (All-weaker (λ s. (place_of was s).watcher ≡ number) (λ s. kept_of now.kept s ≡ kept_of old.kept s) (λ s same. so_far.kept s (omega (arith, same))) (serials_at was number) its)
          (All-weaker (λ s. (place_of was s).watcher ≡ number) (λ s. pair_of now.clips s ≡ pair_of old.clips s) (λ s same. so_far.pairs s (omega (arith, same))) (serials_at was number) its)
          so_far.paid (subst (λ n. more ≤ steps + n) same_steps taken))

      pub apart_here : ((serial : ℕ) → (¬ (place_of it serial).watcher ≡ number) → pair_of next.clips serial ≡ pair_of now.clips serial) →
          (serial : ℕ) → is_rooted_in shown.tree document (observer_of was serial).root ≡ false → pair_of next.clips serial ≡ pair_of old.clips serial
      apart_here pairs serial apart =
          pairs serial (λ same. false≢true
          (sym apart
          ∙ ap (is_rooted_in shown.tree document) (sym (root_still was it carried serial))
          ∙ ap (λ w. is_rooted_in shown.tree document (intersection_observer_at it w).root) same
          ∙ rooted))
          ∙ so_far.apart serial apart

      pub totals_more : AreNumbered now.clips → ChangesByLooks (scene_of shown) now.seen next.seen now.clips.touches next.clips.touches →
          ((serial : ℕ) → (¬ (place_of it serial).watcher ≡ number) → kept_of next.kept serial ≡ kept_of now.kept serial) →
          ((serial : ℕ) → (¬ (place_of it serial).watcher ≡ number) → pair_of next.clips serial ≡ pair_of now.clips serial) →
          All (λ serial. StandsAt it number serial) (serials_at it number) → more ≤ steps + steps_at shown margins chained it (serials_at it number) now next → Totals (number + 1) old next from more
      totals_more numbered changes kept pairs listed taken = record {
        paid = paid_here numbered changes listed taken;
        kept = λ serial later.
            kept serial (λ same. let place = here serial in absurd (omega (arith, later, same, place)))
            ∙ so_far.kept serial (omega (arith, later));
        pairs = λ serial later.
            pairs serial (λ same. let place = here serial in absurd (omega (arith, later, same, place)))
            ∙ so_far.pairs serial (omega (arith, later));
        apart = apart_here pairs;
      }

  -- those of so many more observers
  steps_on : (more number : ℕ) (old now : HeldFindings) → number + more ≤ length was.made →
      steps_at shown margins chained was (first_serials number) old now ≤ steps_at shown margins chained was (first_serials (number + more)) old now
  steps_on zero number old now within =
      let P : ℕ → Type 0 = λ n. steps_at shown margins chained was (first_serials number) old now ≤ steps_at shown margins chained was (first_serials n) old now in
      let same : number ≡ number + 0 = omega arith in
      let own : steps_at shown margins chained was (first_serials number) old now ≤ steps_at shown margins chained was (first_serials number) old now = omega arith in
      subst P same own
  steps_on (suc more) number old now within =
      let P : ℕ → Type 0 = λ n. steps_at shown margins chained was (first_serials number) old now ≤ steps_at shown margins chained was (first_serials n) old now in
      let is : Bool = is_rooted_in shown.tree document (intersection_observer_at was number).root in
      let one : P (number + 1) =
      subst (λ (these : List ℕ). steps_at shown margins chained was (first_serials number) old now ≤ steps_at shown margins chained was these old now)
      (sym (more_serials number is (omega (arith, within)) refl)) (steps_part shown margins chained was (first_serials number) (cond is (serials_at was number) []) old now) in
      let rest = steps_on more (number + 1) old now (omega (arith, within)) in
      let same : number + 1 + more ≡ number + suc more = omega arith in
      subst P same (omega (arith, one, rest))

  -- those of all observers that are looked at
  pub totals_all : (number : ℕ) (old now : HeldFindings) (from steps : ℕ) → number ≤ length was.made → steps ≤ from + steps_at shown margins chained was (first_serials number) old now →
      steps ≤ from + most_steps shown margins chained document was old now
  totals_all number old now from steps within paid =
      let left : ℕ = length was.made - number in
      let all = steps_on left number old now (omega (arith, within)) in
      let past : number + left ≡ length was.made = omega (arith, within) in
      let whole : steps_at shown margins chained was (first_serials (number + left)) old now ≡ most_steps shown margins chained document was old now =
      ap (λ (made : List IntersectionObserver). steps_at shown margins chained was (flat_map (serials_at was) (places_from 0 (λ (it : IntersectionObserver). is_rooted_in shown.tree document (it.root)) made)) old now)
      (ap (λ n. take n (was.made)) past ∙ take_all (length was.made) (was.made) (omega arith)) in
      omega (arith, paid, all, whole)
