-- The first name of each thing, kept under the thing.
use Rattle.std.proofs.Common.{◌≡◌, ◌∙◌, ℕ, Bool, true, false, cond, List, [], ◌∷◌, ◌++◌, Option, Some, None, find, is_some, option_map, ap, refl, sym, subst}
use Rattle.std.specs.Cmp.{IsEquivalence}
use Rattle.std.specs.Map.{lookup}
use Rattle.page_model.specs.World.{Thing, Name}
use Rattle.page_model.specs.Names.{is_same_thing}
use Rattle.page_names.specs.declared.thing.ThingKey.{ThingKey}
use Rattle.page_names.specs.declared.thing.ThingKey.TheVariants as key
use Rattle.page_names.specs.contracts.thing.ThingKeyPartialEq.TheImpl as keys
use Rattle.page_names.specs.contracts.thing.ThingKeyEq.TheImpl.Laws.{laws-law}
use Rattle.page_names.specs.Known.{seen_key, AreFirst}

-- keys are compared as the things that they are

abbrev same : ThingKey → ThingKey → Bool
same a b = is_same_thing (seen_key a) (seen_key b)

same_key : (a b : ThingKey) → (keys.ghosts).eq a b ≡ same a b
same_key (key.Document a) (key.Document b) = refl
same_key (key.Document a) (key.Element b) = refl
same_key (key.Document a) (key.ResizeObserver b) = refl
same_key (key.Document a) (key.IntersectionObserver b) = refl
same_key (key.Document a) (key.QueryList b) = refl
same_key (key.Element a) (key.Document b) = refl
same_key (key.Element a) (key.Element b) = refl
same_key (key.Element a) (key.ResizeObserver b) = refl
same_key (key.Element a) (key.IntersectionObserver b) = refl
same_key (key.Element a) (key.QueryList b) = refl
same_key (key.ResizeObserver a) (key.Document b) = refl
same_key (key.ResizeObserver a) (key.Element b) = refl
same_key (key.ResizeObserver a) (key.ResizeObserver b) = refl
same_key (key.ResizeObserver a) (key.IntersectionObserver b) = refl
same_key (key.ResizeObserver a) (key.QueryList b) = refl
same_key (key.IntersectionObserver a) (key.Document b) = refl
same_key (key.IntersectionObserver a) (key.Element b) = refl
same_key (key.IntersectionObserver a) (key.ResizeObserver b) = refl
same_key (key.IntersectionObserver a) (key.IntersectionObserver b) = refl
same_key (key.IntersectionObserver a) (key.QueryList b) = refl
same_key (key.QueryList a) (key.Document b) = refl
same_key (key.QueryList a) (key.Element b) = refl
same_key (key.QueryList a) (key.ResizeObserver b) = refl
same_key (key.QueryList a) (key.IntersectionObserver b) = refl
same_key (key.QueryList a) (key.QueryList b) = refl

compared : (keys.ghosts).eq ≡ same
compared = λ j a b. same_key a b j

laws : IsEquivalence same
laws = subst (λ (each : ThingKey → ThingKey → Bool). IsEquivalence each) compared laws-law

-- one more name

abbrev pub text_for : Thing → List Name → Option (List ℕ)
text_for thing names = option_map (λ (named : Name). named.text) (find (λ (named : Name). is_same_thing named.thing thing) names)

abbrev or_last : Option (List ℕ) → Bool → List ℕ → Option (List ℕ)
or_last found is text = cond (is_some found) found (cond is (Some text) None)

text_pushed : (thing : Thing) (names : List Name) (last : Name) → text_for thing (names ++ last ∷ []) ≡ or_last (text_for thing names) (is_same_thing last.thing thing) last.text
text_pushed thing [] last = by (is_same_thing last.thing thing)
  where
    by : (is : Bool) → option_map (λ (named : Name). named.text) (cond is (Some last) None) ≡ cond is (Some last.text) None
    by true = refl
    by false = refl
text_pushed thing (named ∷ names) last = by (is_same_thing named.thing thing) (text_pushed thing names last)
  where
    by : (is : Bool) → text_for thing (names ++ last ∷ []) ≡ or_last (text_for thing names) (is_same_thing last.thing thing) last.text
        → option_map (λ (it : Name). it.text) (cond is (Some named) (find (λ (it : Name). is_same_thing it.thing thing) (names ++ last ∷ [])))
        ≡ or_last (option_map (λ (it : Name). it.text) (cond is (Some named) (find (λ (it : Name). is_same_thing it.thing thing) names))) (is_same_thing last.thing thing) last.text
    by true later = refl
    by false later = later

stays : (found : Option (List ℕ)) (is : Bool) (text : List ℕ) → (is ≡ true → is_some found ≡ true) → found ≡ or_last found is text
stays (Some first) is text there = refl
stays None false text there = refl
stays None true text there = let e : false ≡ true = there refl in cc

goes_last : (found : Option (List ℕ)) (is : Bool) (text : List ℕ) → (is ≡ true → is_some found ≡ false) → cond is (Some text) found ≡ or_last found is text
goes_last (Some first) false text absent = refl
goes_last None false text absent = refl
goes_last None true text absent = refl
goes_last (Some first) true text absent = let e : true ≡ false = absent refl in cc

-- what is kept

module _ (names : List Name) (firsts : List (ThingKey × List ℕ)) (was : AreFirst names firsts) (given : ThingKey) where
  pub first_name : lookup ((keys.ghosts).eq given) firsts ≡ text_for (seen_key given) names
  first_name = ap (λ (each : ThingKey → ThingKey → Bool). lookup (each given) firsts) compared ∙ was given

  module _ (text : List ℕ) where
    now : (thing : ThingKey) → or_last (lookup (same thing) firsts) (same given thing) text ≡ text_for (seen_key thing) (names ++ record { text = text; thing = seen_key given } ∷ [])
    now thing =
        ap (λ (found : Option (List ℕ)). or_last found (same given thing) text) (was thing)
        ∙ sym (text_pushed (seen_key thing) names (record { text = text; thing = seen_key given }))

    alike : (is : Bool) → is_some (lookup ((keys.ghosts).eq given) firsts) ≡ is → (thing : ThingKey) → same given thing ≡ true → is_some (lookup (same thing) firsts) ≡ is
    alike is there thing one =
        sym (λ j. is_some (lookup (λ other. laws.congr given thing other one j) firsts))
        ∙ sym (ap (λ (each : ThingKey → ThingKey → Bool). is_some (lookup (each given) firsts)) compared) ∙ there

    -- where the thing has a name, that one stays the first
    pub first_stays : is_some (lookup ((keys.ghosts).eq given) firsts) ≡ true → AreFirst (names ++ record { text = text; thing = seen_key given } ∷ []) firsts
    first_stays there thing = stays (lookup (same thing) firsts) (same given thing) text (alike true there thing) ∙ now thing

    -- where it has none, the one that is given is its first
    pub first_given : (after : List (ThingKey × List ℕ)) → is_some (lookup ((keys.ghosts).eq given) firsts) ≡ false
        → ((thing : ThingKey) → lookup ((keys.ghosts).eq thing) after ≡ cond ((keys.ghosts).eq given thing) (Some text) (lookup ((keys.ghosts).eq thing) firsts))
        → AreFirst (names ++ record { text = text; thing = seen_key given } ∷ []) after
    first_given after absent updated thing =
        subst (λ (each : ThingKey → ThingKey → Bool). lookup (each thing) after ≡ cond (each given thing) (Some text) (lookup (each thing) firsts)) compared (updated thing)
        ∙ goes_last (lookup (same thing) firsts) (same given thing) text (alike false absent thing) ∙ now thing
