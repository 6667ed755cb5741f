-- A touched spot: clips that hang on it stand no more, and all others stay exact.
use Rattle.std.proofs.Common.{◌≡◌, ◌∙◌, ℕ, suc, ◌<◌, ◌≤◌, ◌&&◌, true, nat_le, nat_lt, min, List, [], ◌∷◌, ◌++◌, Option, Some, None, ap, refl, sym, subst, inl, inr, arith, get_or-set_other, get_or-set_same}
use Rattle.std.specs.Prelude.{filter_map, IfSome}
use Rattle.std.specs.List.{list_all, cons_option}
use Rattle.std.proofs.lemmas.Bool.Decides.{nat_tests}
use Rattle.std.proofs.lemmas.Bool.{and_parts}
use Rattle.px_units.specs.declared.Rect.{Rect}
use Rattle.element_tree.specs.declared.container.Container.{Container}
use Rattle.element_tree.specs.declared.container.Container.TheVariants.{Element, Document}
use Rattle.clip_chain.specs.Scenes.{Scene}
use Rattle.clip_chain.specs.Chains.{Leads}
use Rattle.kept_clips.specs.declared.pair.Computed.{Computed}
use Rattle.kept_clips.specs.Clips.{common_clip, clip_between}
use Rattle.kept_clips.specs.Touches.{Touched, last_number, last_touch, IsAdded, touched, touched_at}
use Rattle.kept_clips.specs.Chains.{is_untouched, stands, IsExact}
use Rattle.kept_clips.specs.Held.{HeldClips, pair_of}
use Rattle.kept_clips.specs.Numbers.{IsNumbered, AreNumbered}
use Rattle.kept_clips.specs.Scenes.{DiffersOnlyAt}
use Rattle.kept_clips.proofs.Spots.{other_node, other_view, same_or_apart}

-- the last touches afterwards

pub touched_here : (of : Container) (it : Touched) (number : ℕ) → IsAdded it of → last_touch (touched_at number of it) of ≡ number
touched_here (Element node) it number added = get_or-set_same it.nodes node.0 number 0 added
touched_here (Document document) it number added = get_or-set_same it.views document.0 number 0 added

pub untouched_there : (of spot : Container) (it : Touched) (number : ℕ) → (¬ spot ≡ of) → last_touch (touched_at number of it) spot ≡ last_touch it spot
untouched_there (Element a) (Element b) it number apart = get_or-set_other it.nodes a.0 b.0 number 0 (other_node b.0 a.0 apart)
untouched_there (Element a) (Document d) it number apart = refl
untouched_there (Document d) (Element b) it number apart = refl
untouched_there (Document c) (Document d) it number apart = get_or-set_other it.views c.0 d.0 number 0 (other_view d.0 c.0 apart)

-- none of these spots is the touched one
abbrev AreApart : Container → List Container → Type 0
AreApart of [] = Unit {0}
AreApart of (spot ∷ spots) = (¬ spot ≡ of) × AreApart of spots

later : (count since last : ℕ) → since ≤ count → since < last → nat_le (min (suc count) last) since ≡ true → ⊥
later count since last one two e = grind (arith, nat_tests)

-- on a chain where no spot was touched since is not the spot that is touched now
apart_all : (of : Container) (it : Touched) (since : ℕ) → IsAdded it of → since ≤ it.count → since < last_number → (spots : List Container) → list_all (is_untouched (touched of it) since) spots ≡ true → AreApart of spots
apart_all of it since added early below [] e = tt
apart_all of it since added early below (spot ∷ spots) e =
    let parts = and_parts (is_untouched (touched of it) since spot) (list_all (is_untouched (touched of it) since) spots) e in (
      (λ same. later it.count since last_number early below
          (ap (λ n. nat_le n since) (sym (touched_here of it (min (suc it.count) last_number) added))
          ∙ ap (λ (s : Container). nat_le (last_touch (touched of it) s) since) (sym same)
          ∙ parts.0)),
      apart_all of it since added early below spots parts.1,
    )

tested : (of spot : Container) (it : Touched) (since : ℕ) → (¬ spot ≡ of) → is_untouched (touched of it) since spot ≡ true → is_untouched it since spot ≡ true
tested of spot it since apart e = ap (λ n. nat_le n since) (sym (untouched_there of spot it (min (suc it.count) last_number) apart)) ∙ e

all_tested : (of : Container) (it : Touched) (since : ℕ) (spots : List Container) → AreApart of spots → list_all (is_untouched (touched of it) since) spots ≡ true → list_all (is_untouched it since) spots ≡ true
all_tested of it since [] apart e = refl
all_tested of it since (spot ∷ spots) apart e =
    let parts = and_parts (is_untouched (touched of it) since spot) (list_all (is_untouched (touched of it) since) spots) e in
    ap (λ b. b && list_all (is_untouched it since) spots) (tested of spot it since apart.0 parts.0)
    ∙ all_tested of it since spots apart.1 parts.1

-- chains and clips that don't come to the touched spot are as before

leads_before : (of : Container) (before after : Scene) → DiffersOnlyAt of before after → (root from : Container) (between : List Container) → (¬ from ≡ of) → AreApart of between → Leads after from between root → Leads before from between root
leads_before of before after only root from [] apart aparts lead = sym (only from apart).container ∙ lead
leads_before of before after only root from (next ∷ between) apart aparts lead =
    (sym (only from apart).container ∙ lead.0, lead.1, leads_before of before after only root next between aparts.0 aparts.1 lead.2)

clips_before : (of : Container) (before after : Scene) → DiffersOnlyAt of before after → (spots : List Container) → AreApart of spots → filter_map (before.clip) spots ≡ filter_map (after.clip) spots
clips_before of before after only [] aparts = refl
clips_before of before after only (spot ∷ spots) aparts =
    ap (λ (o : Option Rect). cons_option o (filter_map (before.clip) spots)) (sym (only spot aparts.0).clip)
    ∙ ap (cons_option (after.clip spot)) (clips_before of before after only spots aparts.1)

front : (of : Container) (spots : List Container) (last : Container) → AreApart of (spots ++ last ∷ []) → AreApart of spots
front of [] last aparts = tt
front of (spot ∷ spots) last aparts = (aparts.0, front of spots last aparts.1)

-- what is known of a clip that stands after the touch
exact_still : (of : Container) (it : Touched) (before after : Scene) → IsAdded it of → DiffersOnlyAt of before after → (root from : Container) (between : List Container) (computed : Option Computed) → IsNumbered it.count computed
    → (Leads before from between root → stands it computed (from ∷ (between ++ root ∷ [])) ≡ true → IfSome computed (λ (c : Computed). c.clip ≡ clip_between before between))
    → Leads after from between root → stands (touched of it) computed (from ∷ (between ++ root ∷ [])) ≡ true → IfSome computed (λ (c : Computed). c.clip ≡ clip_between after between)
exact_still of it before after added only root from between None numbered exact lead current = tt
exact_still of it before after added only root from between (Some c) numbered exact lead current =
    let chain = from ∷ (between ++ root ∷ []) in
    let parts = and_parts (nat_lt c.touches last_number) (list_all (is_untouched (touched of it) c.touches) chain) current in
    let below : c.touches < last_number = grind (arith, nat_tests, parts.0) in
    let aparts = apart_all of it c.touches added numbered below chain parts.1 in
    let between_apart = front of between root aparts.1 in
    exact (leads_before of before after only root from between aparts.0 between_apart lead)
    (ap (λ b. b && list_all (is_untouched it c.touches) chain) parts.0 ∙ all_tested of it c.touches chain aparts parts.1)
    ∙ ap common_clip (clips_before of before after only between between_apart)

-- what stands after the touch stood before it
pub stood : (of : Container) (it : Touched) (computed : Option Computed) (chain : List Container) → IsAdded it of → IsNumbered it.count computed → stands (touched of it) computed chain ≡ true → stands it computed chain ≡ true
stood of it None chain added numbered current = current
stood of it (Some c) chain added numbered current =
    let parts = and_parts (nat_lt c.touches last_number) (list_all (is_untouched (touched of it) c.touches) chain) current in
    let below : c.touches < last_number = grind (arith, nat_tests, parts.0) in
    ap (λ b. b && list_all (is_untouched it c.touches) chain) parts.0
    ∙ all_tested of it c.touches chain (apart_all of it c.touches added numbered below chain parts.1) parts.1

pub exact_touched : (of : Container) (it : HeldClips) (before after : Scene) → IsAdded it.touches of → AreNumbered it → (number : ℕ) → IsExact before it number → DiffersOnlyAt of before after → IsExact after (record it { touches = touched of (it.touches) }) number
exact_touched of it before after added numbers number exact only = λ between lead current.
    let pair = pair_of it number in
    exact_still of it.touches before after added only pair.root pair.of between pair.computed (numbers.numbered number) (exact between) lead current

raised : (count last : ℕ) → count ≤ last → count ≤ min (suc count) last
raised count last h = grind (arith, nat_tests)

numbered_up : (few many : ℕ) (computed : Option Computed) → few ≤ many → IsNumbered few computed → IsNumbered many computed
numbered_up few many None more h = tt
numbered_up few many (Some c) more h = omega (arith, h, more)

count_touched : (of : Container) (it : Touched) (number : ℕ) → (touched_at number of it).count ≡ number
count_touched (Element node) it number = refl
count_touched (Document document) it number = refl

pub numbered_touched : (of : Container) (it : HeldClips) → IsAdded it.touches of → AreNumbered it → AreNumbered (record it { touches = touched of (it.touches) })
numbered_touched of it added all =
    let e = count_touched of it.touches (min (suc it.touches.count) last_number) in
    record {
      touched = λ spot.
          subst (λ n. last_touch (touched of it.touches) spot ≤ n) (sym e)
          (elim (same_or_apart of spot) [
            | inl same ↦ subst (λ (s : Container). last_touch (touched of it.touches) s ≤ min (suc it.touches.count) last_number) (sym same)
                (subst (λ n. n ≤ min (suc it.touches.count) last_number) (sym (touched_here of it.touches (min (suc it.touches.count) last_number) added)) (omega arith))
            | inr apart ↦ subst (λ n. n ≤ min (suc it.touches.count) last_number) (sym (untouched_there of spot it.touches (min (suc it.touches.count) last_number) apart))
                (let before = all.touched spot in let up = raised it.touches.count last_number all.counted in omega arith)
          ]);
      numbered = λ number.
          subst (λ n. IsNumbered n (pair_of it number).computed) (sym e)
          (numbered_up it.touches.count (min (suc it.touches.count) last_number) (pair_of it number).computed (raised it.touches.count last_number all.counted) (all.numbered number));
      counted = subst (λ n. n ≤ last_number) (sym e) (omega arith);
    }

pub count_raised : (of : Container) (it : Touched) → it.count ≤ last_number → it.count ≤ (touched of it).count
count_raised of it counted = subst (λ n. it.count ≤ n) (sym (count_touched of it (min (suc it.count) last_number))) (raised it.count last_number counted)
