-- A spot that is seen anew.
use Rattle.std.proofs.Common.{◌≡◌, ◌∙◌, ℕ, zero, suc, ◌≤◌, ◌-◌, Bool, false, List, [], ◌∷◌, ◌++◌, length, get_or, Option, Some, None, option_map, unwrap_or, ap, refl, sym, subst, inl, inr, get_or-set_other, get_or-set_same}
use Rattle.std.specs.Prelude.{option_and_then, replicate, slice_set}
use Rattle.std.proofs.lemmas.Bool.{cases_lt}
use Rattle.std.proofs.lemmas.List.{get_or-replicate, get_or_past, get_or_append_left, length-replicate}
use Rattle.std.proofs.Math.Seq.{get_or-append_right}
use Rattle.page_model.specs.Chains.{zero_rect}
use Rattle.element_tree.specs.declared.container.Container.{Container}
use Rattle.element_tree.specs.declared.container.Container.TheVariants.{Element, Document}
use Rattle.clip_chain.specs.Scenes.{Scene}
use Rattle.kept_clips.specs.declared.sightings.Sighting.{Sighting}
use Rattle.kept_clips.specs.Seen.{Seen, sighting_of, scene_seen, sighting_in, with_sighting, with_room, HasRoom}
use Rattle.kept_clips.specs.Held.{HeldClips}
use Rattle.kept_clips.specs.Chains.{IsExact}
use Rattle.kept_clips.specs.Scenes.{AgreesAt, DiffersOnlyAt}
use Rattle.kept_clips.proofs.Spots.{other_node, other_view, same_or_apart}

pub seen_there : (it : Seen) (of other : Container) (s : Sighting) → (¬ other ≡ of) → sighting_of (with_sighting of s it) other ≡ sighting_of it other
seen_there it (Element a) (Element b) s apart = get_or-set_other it.nodes a.0 b.0 (Some s) None (other_node b.0 a.0 apart)
seen_there it (Element a) (Document d) s apart = refl
seen_there it (Document d) (Element b) s apart = refl
seen_there it (Document c) (Document d) s apart = get_or-set_other it.views c.0 d.0 (Some s) None (other_view d.0 c.0 apart)

pub seen_here : (it : Seen) (of : Container) (s : Sighting) → HasRoom it of → sighting_of (with_sighting of s it) of ≡ Some s
seen_here it (Element a) s room = get_or-set_same it.nodes a.0 (Some s) None room
seen_here it (Document d) s room = get_or-set_same it.views d.0 (Some s) None room

abbrev pub was_scrolling : Option Sighting → Bool
was_scrolling o = unwrap_or (option_map (λ (each : Sighting). each.scrolls) o) false

-- nothing else is seen anew, so that a touch of the spot keeps clips exact of what was seen last
pub differs_there : (it : Seen) (of : Container) (s : Sighting) → DiffersOnlyAt of (scene_seen it) (scene_seen (with_sighting of s it))
differs_there it of s = λ other apart. record {
  container = ap (option_and_then (λ (each : Sighting). each.container)) (seen_there it of other s apart);
  clip = ap (option_and_then (λ (each : Sighting). each.clip)) (seen_there it of other s apart);
  scrolls = ap was_scrolling (seen_there it of other s apart);
}

-- the spot is seen as it is
pub agrees_here : (it : Seen) (of : Container) (now : Scene) → HasRoom it of → AgreesAt (scene_seen (with_sighting of (sighting_in now of) it)) now of
agrees_here it of now room = record {
  container = sym (ap (option_and_then (λ (each : Sighting). each.container)) (seen_here it of (sighting_in now of) room));
  clip = sym (ap (option_and_then (λ (each : Sighting). each.clip)) (seen_here it of (sighting_in now of) room));
  scrolls = sym (ap was_scrolling (seen_here it of (sighting_in now of) room));
}

-- what is seen as it was leaves what was seen last as it is

kept_at : (sightings : List (Option Sighting)) (n : ℕ) (s : Sighting) → get_or sightings n None ≡ Some s → slice_set sightings n (Some s) ≡ sightings
kept_at [] n s e = refl
kept_at (x ∷ xs) zero s e = ap (λ (o : Option Sighting). o ∷ xs) (sym e)
kept_at (x ∷ xs) (suc n) s e = ap (λ (others : List (Option Sighting)). x ∷ others) (kept_at xs n s e)

pub agrees_as_seen : (it : Seen) (of : Container) (now : Scene) → sighting_of it of ≡ Some (sighting_in now of) → AgreesAt (scene_seen it) now of
agrees_as_seen it of now e = record {
  container = sym (ap (option_and_then (λ (each : Sighting). each.container)) e);
  clip = sym (ap (option_and_then (λ (each : Sighting). each.clip)) e);
  scrolls = sym (ap was_scrolling e);
}

-- a spot that agreed does so still when another one is seen, and that one too
pub agrees_still : (it : Seen) (of other : Container) (now : Scene) → HasRoom it of → AgreesAt (scene_seen it) now other → AgreesAt (scene_seen (with_sighting of (sighting_in now of) it)) now other
agrees_still it of other now room was = elim (same_or_apart of other) [
  | inl same ↦ subst (AgreesAt (scene_seen (with_sighting of (sighting_in now of) it)) now) (sym same) (agrees_here it of now room)
  | inr apart ↦ record {
    container = was.container ∙ sym (differs_there it of (sighting_in now of) other apart).container;
    clip = was.clip ∙ sym (differs_there it of (sighting_in now of) other apart).clip;
    scrolls = was.scrolls ∙ sym (differs_there it of (sighting_in now of) other apart).scrolls;
  }
]

-- room for more spots: what was seen stays

nones : (count n : ℕ) → ◌≡◌ {A = Option Sighting} (get_or (replicate count None) n None) None
nones count n = elim (cases_lt n count) [
  | inl h ↦ get_or-replicate count n None None h
  | inr h ↦ get_or_past (replicate count None) n None (subst (λ l. l ≤ n) (sym (length-replicate count None)) h)
]

filled : (sightings : List (Option Sighting)) (count n : ℕ) → get_or (sightings ++ replicate count None) n None ≡ get_or sightings n None
filled sightings count n = elim (cases_lt n (length sightings)) [
  | inl h ↦ get_or_append_left sightings (replicate count None) None n h
  | inr h ↦ get_or-append_right sightings (replicate count None) n None h ∙ nones count (n - length sightings) ∙ sym (get_or_past sightings n None h)
]

pub seen_with_room : (it : Seen) (of spot : Container) → sighting_of (with_room of it) spot ≡ sighting_of it spot
seen_with_room it (Element a) (Element b) = filled it.nodes (suc a.0 - length it.nodes) b.0
seen_with_room it (Element a) (Document d) = refl
seen_with_room it (Document d) (Element b) = refl
seen_with_room it (Document c) (Document d) = filled it.views (suc c.0 - length it.views) d.0

-- the scene that was seen is told by what was seen of each spot
pub same_scene : (before after : Seen) → ((spot : Container) → sighting_of after spot ≡ sighting_of before spot) → scene_seen after ≡ scene_seen before
same_scene before after same = λ i. record {
  container = λ of. option_and_then (λ (s : Sighting). s.container) (same of i);
  clip = λ of. option_and_then (λ (s : Sighting). s.clip) (same of i);
  bounds = λ of. unwrap_or (option_map (λ (s : Sighting). s.bounds) (same of i)) zero_rect;
  scrolls = λ of. was_scrolling (same of i);
  moved = λ of. false;
}

pub exact_as_seen : (before after : Seen) → ((spot : Container) → sighting_of after spot ≡ sighting_of before spot) → (view : Scene → Scene) (clips : HeldClips) (number : ℕ) → IsExact (view (scene_seen before)) clips number → IsExact (view (scene_seen after)) clips number
exact_as_seen before after same view clips number exact = subst (λ (scene : Scene). IsExact (view scene) clips number) (sym (same_scene before after same)) exact
