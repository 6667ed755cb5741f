-- An update that follows another finds no news, and an update of another document leaves that so.
use Rattle.std.proofs.Common.{◌≡◌, ◌∙◌, ◌<◌, ℕ, suc, Bool, true, false, cond, not, List, [], ◌∷◌, ◌++◌, map, refl, ap, sym, append-nil, arith, tests}
use Rattle.std.specs.Prelude.{◌==◌, ◌&&◌, filter_map, Option, Some, None}
use Rattle.std.specs.List.{cons_option}
use Rattle.script_model.specs.Margins.{Margins}
use Rattle.page_model.specs.Shown.{Shown}
use Rattle.page_model.specs.World.{Tree, Root, ImplicitRoot, DocumentRoot, ElementRoot, Finding, Entry, Registration, IntersectionObserver, IntersectionObservers}
use Rattle.page_model.specs.Documents.{is_number, tree_document}
use Rattle.page_model.specs.Lookups.{no_intersection_observer, scroll_margins_at}
use Rattle.page_model.specs.Intersections.{Settled, settled, is_same_bool, is_news, is_rooted_in, watchers, settled_observer}
use Rattle.clip_chain.specs.Worlds.{scene_of, element_spot, spot_of_root}
use Rattle.kept_clips.specs.Held.{pair_of}
use Rattle.kept_clips.specs.Looked.{ChangesByLooks}
use Rattle.kept_clips.specs.Seen.{sighting_of, sighting_in}
use Rattle.kept_clips.specs.Touches.{last_number}
use Rattle.candidate_index.specs.Held.{kept_of}
use Rattle.candidate_index.specs.Registrations.{observer_of, target_of}
use Rattle.kept_findings.specs.Held.{HeldFindings}
use Rattle.kept_findings.specs.Registered.{AreRegistered}
use Rattle.kept_findings.proofs.Pairing.{pair_by, standing_spots}
use Rattle.page_geometry.specs.Scenes.{standings_of}
use Rattle.intersection_update.specs.Keeping.{HaveChains, is_stale_in, IsLookedAt, IsSeen, HasCurrentClip}
use Rattle.intersection_update.specs.Updating.{found_through, updated, settled_if_rooted, Carried}
use Rattle.intersection_update.proofs.Carried.{along_still, stale_still}
use Rattle.intersection_update.proofs.Current.{current_still, current_then}
use Rattle.intersection_update.proofs.Keeping.{stale_by}
use Rattle.intersection_update.proofs.Lists.{map_from, each_place}
use Rattle.intersection_update.proofs.Observers.{all_seen_still, looked_at_before}
use Rattle.intersection_update.proofs.Registrations.{by_parts}
use Rattle.intersection_update.proofs.Updates.{in_turn}

-- registrations that hold what is found ------------------------------------------------------------------------------------------

own_bool : (b : Bool) → is_same_bool b b ≡ true
own_bool true = refl
own_bool false = refl

own_number : (n : ℕ) → (n == n) ≡ true
own_number n = grind (arith, tests)

module _ (time earlier : ℕ) (find : ℕ → Finding) where
  abbrev stored : Registration → Registration
  stored x = (settled earlier (find (x.target)) x).registration

  abbrev all_stored : List Registration → List Registration
  all_stored xs = map (λ (it : Settled). it.registration) (map (λ (r : Registration). settled earlier (find (r.target)) r) xs)

  no_news : (x : Registration) → is_news (stored x) (find (x.target)) ≡ false
  no_news x = ap (λ b. not (b && is_same_bool (find (x.target)).meets (find (x.target)).meets)) (own_number (find (x.target)).index) ∙ ap not (own_bool (find (x.target)).meets)

  stored_twice : (xs : List Registration) → map (λ (it : Settled). it.registration) (map (λ (r : Registration). settled time (find (r.target)) r) (all_stored xs)) ≡ all_stored xs
  stored_twice [] = refl
  stored_twice (x ∷ xs) = ap (λ others. stored x ∷ others) (stored_twice xs)

  abbrev second : List Registration → List Entry
  second xs = filter_map (λ (it : Settled). it.entry) (map (λ (r : Registration). settled time (find (r.target)) r) (all_stored xs))

  no_entries : (xs : List Registration) → second xs ≡ []
  no_entries [] = refl
  no_entries (x ∷ xs) =
      ap (λ b. cons_option (cond b (Some (record { target = x.target; time = time; finding = find (x.target) })) None) (second xs)) (no_news x)
      ∙ no_entries xs

-- an observer that was settled by what it finds
module _ (shown : Shown) (margins : List Margins) (n time earlier : ℕ) (x : IntersectionObserver) where
  abbrev once : IntersectionObserver
  once = settled_observer earlier (found_through shown margins n) x

  same_find : (target : ℕ) → found_through shown margins n once target ≡ found_through shown margins n x target
  same_find target = by_parts shown (scroll_margins_at margins n) once target ∙ sym (by_parts shown (scroll_margins_at margins n) x target)

  settled_twice : settled_observer time (found_through shown margins n) once ≡ once
  settled_twice =
      (λ i. record once {
        registrations = map (λ (it : Settled). it.registration) (map (λ (r : Registration). settled time (same_find (r.target) i) r) (once.registrations));
        queue = once.queue ++ filter_map (λ (it : Settled). it.entry) (map (λ (r : Registration). settled time (same_find (r.target) i) r) (once.registrations));
      })
      ∙ (λ i. record once {
        registrations = stored_twice time earlier (found_through shown margins n x) (x.registrations) i;
        queue = once.queue ++ no_entries time earlier (found_through shown margins n x) (x.registrations) i;
      })
      ∙ ap (λ (queue : List Entry). record once { queue = queue }) (append-nil (once.queue))

-- one update after another -------------------------------------------------------------------------------------------------------

-- entries that are changed twice, and those of which the second change leaves what the first one made
module _ {A : Type 0} (second first : ℕ → A → A) where
  twice_from : (n : ℕ) (xs : List A) → ((n : ℕ) (x : A) → second n (first n x) ≡ first n x) → map_from n second (map_from n first xs) ≡ map_from n first xs
  twice_from n [] each = refl
  twice_from n (x ∷ xs) each = λ i. each n x i ∷ twice_from (suc n) xs each i

  left_from : (n : ℕ) (xs : List A) → ((n : ℕ) (x : A) → second n x ≡ x → second n (first n x) ≡ first n x) → map_from n second xs ≡ xs → map_from n second (map_from n first xs) ≡ map_from n first xs
  left_from n [] each same = refl
  left_from n (x ∷ xs) each same =
      let here : second n x ≡ x = cc in
      let others : map_from (suc n) second xs ≡ xs = cc in
      λ i. each n x here i ∷ left_from (suc n) xs each others i

-- a root is of one document
pub one_document : (tree : Tree) (root : Root) (document other : ℕ) → (¬ document ≡ other) → is_rooted_in tree other root ≡ true → is_rooted_in tree document root ≡ false
one_document tree ImplicitRoot document other apart is = differs 0 document other apart is
  where
    differs : (own document other : ℕ) → (¬ document ≡ other) → (other == own) ≡ true → (document == own) ≡ false
    differs own document other apart is = grind (arith, tests)
one_document tree (DocumentRoot root) document other apart is = differs root document other apart is
  where
    differs : (own document other : ℕ) → (¬ document ≡ other) → (own == other) ≡ true → (own == document) ≡ false
    differs own document other apart is = grind (arith, tests)
one_document tree (ElementRoot root) document other apart is = differs (tree_document tree root) document other apart is
  where
    differs : (own : Option ℕ) (document other : ℕ) → (¬ document ≡ other) → is_number own other ≡ true → is_number own document ≡ false
    differs None document other apart is = refl
    differs (Some own) document other apart is = grind (arith, tests)

module _ (shown : Shown) (margins : List Margins) (tree : Tree) (time earlier : ℕ) where
  updated_made : (document time : ℕ) (it : IntersectionObservers) → updated shown margins tree document time it ≡ record it { made = map_from 0 (settled_if_rooted shown margins tree document time) (it.made) }
  updated_made document time it =
      in_turn shown margins time (watchers tree document it) it
      ∙ ap (λ (made : List IntersectionObserver). record it { made = made })
      (each_place no_intersection_observer (λ (x : IntersectionObserver). is_rooted_in tree document (x.root)) (λ n x. settled_observer time (found_through shown margins n) x) (it.made))

  -- both changes of the list of observers
  module _ (document other : ℕ) (it : IntersectionObservers) where
    abbrev second_made : List IntersectionObserver → List IntersectionObserver
    second_made made = map_from 0 (settled_if_rooted shown margins tree document time) made

    abbrev first_made : List IntersectionObserver
    first_made = map_from 0 (settled_if_rooted shown margins tree other earlier) (it.made)

    by_made : second_made first_made ≡ first_made → updated shown margins tree document time (updated shown margins tree other earlier it) ≡ updated shown margins tree other earlier it
    by_made same =
        ap (updated shown margins tree document time) (updated_made other earlier it)
        ∙ updated_made document time (record it { made = first_made })
        ∙ ap (λ (made : List IntersectionObserver). record it { made = made }) same
        ∙ sym (updated_made other earlier it)

  settled_again : (document n : ℕ) (x : IntersectionObserver) (is : Bool) → is_rooted_in tree document (x.root) ≡ is →
      settled_if_rooted shown margins tree document time n (cond is (settled_observer earlier (found_through shown margins n) x) x) ≡ cond is (settled_observer earlier (found_through shown margins n) x) x
  settled_again document n x true rooted =
      ap (λ b. cond b (settled_observer time (found_through shown margins n) (settled_observer earlier (found_through shown margins n) x)) (settled_observer earlier (found_through shown margins n) x)) rooted
      ∙ settled_twice shown margins n time earlier x
  settled_again document n x false rooted = ap (λ b. cond b (settled_observer time (found_through shown margins n) x) x) rooted

  -- a further update of a document changes no observer
  pub updated_twice : (document : ℕ) (it : IntersectionObservers) → updated shown margins tree document time (updated shown margins tree document earlier it) ≡ updated shown margins tree document earlier it
  updated_twice document it =
      by_made document document it
      (twice_from (settled_if_rooted shown margins tree document time) (settled_if_rooted shown margins tree document earlier) 0 (it.made) (λ n x. settled_again document n x (is_rooted_in tree document (x.root)) refl))

  module _ (document other : ℕ) (apart : ¬ document ≡ other) where
    settled_apart : (n : ℕ) (x : IntersectionObserver) (is : Bool) → is_rooted_in tree other (x.root) ≡ is → settled_if_rooted shown margins tree document time n x ≡ x →
        settled_if_rooted shown margins tree document time n (cond is (settled_observer earlier (found_through shown margins n) x) x) ≡ cond is (settled_observer earlier (found_through shown margins n) x) x
    settled_apart n x true rooted same =
        ap (λ b. cond b (settled_observer time (found_through shown margins n) (settled_observer earlier (found_through shown margins n) x)) (settled_observer earlier (found_through shown margins n) x))
        (one_document tree (x.root) document other apart rooted)
    settled_apart n x false rooted same = same

    -- nor does it after one of another document, if it didn't before
    pub updated_apart : (it : IntersectionObservers) → updated shown margins tree document time it ≡ it → updated shown margins tree document time (updated shown margins tree other earlier it) ≡ updated shown margins tree other earlier it
    updated_apart it same =
        by_made document other it
        (left_from (settled_if_rooted shown margins tree document time) (settled_if_rooted shown margins tree other earlier) 0 (it.made) (λ n x. settled_apart n x (is_rooted_in tree other (x.root)) refl)
        (ap (λ (made : IntersectionObservers). made.made) (sym (updated_made document time it) ∙ same)))

-- what is kept of the registrations of another document -------------------------------------------------------------------------

module _ (shown : Shown) (document other : ℕ) (apart : ¬ document ≡ other) (was it : IntersectionObservers) (carried : Carried was it) (before now : HeldFindings)
    (changes : ChangesByLooks (scene_of shown) before.seen now.seen before.clips.touches now.clips.touches) where
  not_rooted : (serial : ℕ) → IsLookedAt shown.tree document was serial → is_rooted_in shown.tree other (observer_of was serial).root ≡ false
  not_rooted serial looked = one_document shown.tree (observer_of was serial).root other document (λ same. apart (sym same)) looked.rooted

  pub seen_apart : ((serial : ℕ) → IsLookedAt shown.tree document was serial → IsSeen shown was before.seen serial) → (serial : ℕ) → IsLookedAt shown.tree document it serial → IsSeen shown it now.seen serial
  seen_apart seen serial looked =
      along_still was it carried serial (scene_of shown) (standings_of shown) (λ spot. sighting_of now.seen spot ≡ Some (sighting_in (scene_of shown) spot))
      (all_seen_still shown was before.seen now.seen before.clips.touches now.clips.touches changes serial (seen serial (looked_at_before shown document was it carried serial looked)))

  pub fresh_apart : (margins : List Margins) (chained : HaveChains shown)
      → ((serial : ℕ) → is_rooted_in shown.tree other (observer_of was serial).root ≡ false → kept_of now.kept serial ≡ kept_of before.kept serial)
      → ((serial : ℕ) → IsLookedAt shown.tree document was serial → is_stale_in shown margins chained was before.kept serial ≡ false)
      → (serial : ℕ) → IsLookedAt shown.tree document it serial → is_stale_in shown margins chained it now.kept serial ≡ false
  fresh_apart margins chained others fresh serial looked =
      let here = looked_at_before shown document was it carried serial looked in
      stale_still was it carried serial (scene_of shown) (standings_of shown) chained margins now.kept
      ∙ stale_by shown margins chained was before.kept now.kept serial false (others serial (not_rooted serial here)) (fresh serial here)

  pub current_apart : (margins : List Margins) (chained : HaveChains shown) → AreRegistered was margins before
      → ((serial : ℕ) → is_rooted_in shown.tree other (observer_of was serial).root ≡ false → pair_of now.clips serial ≡ pair_of before.clips serial)
      → ((serial : ℕ) → IsLookedAt shown.tree document was serial → IsSeen shown was before.seen serial)
      → (before.clips.touches.count < last_number → (serial : ℕ) → IsLookedAt shown.tree document was serial → HasCurrentClip shown chained was before.clips serial)
      → now.clips.touches.count < last_number → (serial : ℕ) → IsLookedAt shown.tree document it serial → HasCurrentClip shown chained it now.clips serial
  current_apart margins chained registered pairs seen current below serial looked =
      let here = looked_at_before shown document was it carried serial looked in
      let fewer = changes.count in
      current_then shown chained was it carried now.clips serial
      (current_still shown chained was before now serial changes (pairs serial (not_rooted serial here))
      (pair_by before.clips serial (spot_of_root (observer_of was serial).root) (element_spot (target_of was serial)) (registered.held.pairs serial ∙ standing_spots was serial here.standing))
      (seen serial here) (current (omega (arith, fewer, below)) serial here))
