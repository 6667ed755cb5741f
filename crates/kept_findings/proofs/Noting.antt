-- Spots that are noted as looked at, and what is known of them.
use Rattle.std.proofs.Common.{◌≡◌, ◌∙◌, ℕ, ◌<◌, ◌≤◌, ◌+◌, suc, min, Bool, true, false, cond, List, length, get_or, ap, refl, sym, subst, inl, inr, arith, get_or-set_other, length-set}
use Rattle.std.specs.Prelude.{Some, count_by, slice_set}
use Rattle.std.proofs.lemmas.Bool.{false≢true}
use Rattle.std.proofs.lemmas.List.{length-replicate}
use Rattle.std.proofs.lemmas.List.Sums.{sum_by-set}
use Rattle.element_tree.specs.declared.container.Container.{Container}
use Rattle.element_tree.specs.declared.container.Container.TheVariants.{Element, Document}
use Rattle.clip_chain.specs.Scenes.{Scene}
use Rattle.kept_clips.specs.declared.sightings.Sighting.{Sighting}
use Rattle.kept_clips.specs.Touches.{Touched, last_number, touched}
use Rattle.kept_clips.specs.Held.{HeldClips}
use Rattle.kept_clips.specs.Scenes.{AgreesAt}
use Rattle.kept_clips.specs.Seen.{Seen, sighting_of, scene_seen, sighting_in, with_sighting, HasRoom}
use Rattle.kept_clips.specs.Looked.{IsLeft, Looked, IsInRange}
use Rattle.kept_clips.proofs.Filling.{replicated}
use Rattle.kept_clips.proofs.Spots.{other_node, other_view, same_or_apart}
use Rattle.kept_clips.proofs.Seeing.{seen_there, seen_here, agrees_as_seen}
use Rattle.kept_findings.specs.Looks.{LookedAt, is_looked, IsNoted, looked_count, HasPlace, no_looks, noted, IsSeenNow, AreLooked}

-- as an update begins

place_first : (seen : Seen) (spot : Container) → HasRoom seen spot → HasPlace (no_looks seen) spot
place_first seen (Element a) room = subst (λ n. a.0 < n) (sym (length-replicate (length seen.nodes) false)) room
place_first seen (Document d) room = subst (λ n. d.0 < n) (sym (length-replicate (length seen.views) false)) room

not_looked : (seen : Seen) (spot : Container) → is_looked (no_looks seen) spot ≡ false
not_looked seen (Element a) = replicated false (length seen.nodes) a.0
not_looked seen (Document d) = replicated false (length seen.views) d.0

pub looked_first : (scene : Scene) (rank : Container → ℕ) (seen : Seen) → AreLooked scene rank seen (no_looks seen)
looked_first scene rank seen = record {
  looked = λ spot is. absurd (false≢true (sym (not_looked seen spot) ∙ is));
  place = place_first seen;
}

-- one spot more

pub noted_there : (it : LookedAt) (of other : Container) → (¬ other ≡ of) → is_looked (noted of it) other ≡ is_looked it other
noted_there it (Element a) (Element b) apart = get_or-set_other it.nodes a.0 b.0 true false (other_node b.0 a.0 apart)
noted_there it (Element a) (Document d) apart = refl
noted_there it (Document d) (Element b) apart = refl
noted_there it (Document c) (Document d) apart = get_or-set_other it.views c.0 d.0 true false (other_view d.0 c.0 apart)

place_still : (it : LookedAt) (of spot : Container) → HasPlace it spot → HasPlace (noted of it) spot
place_still it (Element a) (Element b) place = subst (λ n. b.0 < n) (sym (length-set it.nodes a.0 true)) place
place_still it (Element a) (Document d) place = place
place_still it (Document d) (Element b) place = place
place_still it (Document c) (Document d) place = subst (λ n. d.0 < n) (sym (length-set it.views c.0 true)) place

room_before : (it : Seen) (of spot : Container) (s : Sighting) → HasRoom (with_sighting of s it) spot → HasRoom it spot
room_before it (Element a) (Element b) s room = subst (λ n. b.0 < n) (length-set it.nodes a.0 (Some s)) room
room_before it (Element a) (Document d) s room = room
room_before it (Document d) (Element b) s room = room
room_before it (Document c) (Document d) s room = subst (λ n. d.0 < n) (length-set it.views c.0 (Some s)) room

module _ (scene : Scene) (rank : Container → ℕ) where
  seen_more : (before : Seen) (it : LookedAt) (of : Container) → HasRoom before of → IsInRange scene rank of → AreLooked scene rank before it → (spot : Container) → IsNoted (noted of it) spot
      → IsSeenNow scene rank (with_sighting of (sighting_in scene of) before) spot
  seen_more before it of room in_range known spot is = elim (same_or_apart of spot) [
    | inl same ↦ subst (IsSeenNow scene rank (with_sighting of (sighting_in scene of) before)) (sym same) (record { sighting = seen_here before of (sighting_in scene of) room; in_range = in_range })
    | inr apart ↦ let was : IsSeenNow scene rank before spot = known.looked spot (sym (noted_there it of spot apart) ∙ is) in
        record { sighting = seen_there before of spot (sighting_in scene of) apart ∙ was.sighting; in_range = was.in_range }
  ]

  pub looked_more : (before now : Seen) (it : LookedAt) (of : Container) → HasRoom before of → now ≡ with_sighting of (sighting_in scene of) before → IsInRange scene rank of
      → AreLooked scene rank before it → AreLooked scene rank now (noted of it)
  looked_more before now it of room is in_range known = subst (λ (seen : Seen). AreLooked scene rank seen (noted of it)) (sym is) (record {
    looked = seen_more before it of room in_range known;
    place = λ spot has. place_still it of spot (known.place spot (room_before before of spot (sighting_in scene of) has));
  })

  pub agrees_noted : (seen : Seen) (it : LookedAt) → AreLooked scene rank seen it → (spot : Container) → IsNoted it spot → AgreesAt (scene_seen seen) scene spot
  agrees_noted seen it known spot is = agrees_as_seen seen spot scene (known.looked spot is).sighting

-- how many were looked at, and how many touches that makes

more_marks : (marks : List Bool) (k : ℕ) → k < length marks → get_or marks k false ≡ false → count_by (λ is. is) (slice_set marks k true) ≡ count_by (λ is. is) marks + 1
more_marks marks k there unmarked =
    let counted : Bool → ℕ = λ is. cond is 1 0 in
    let more = sum_by-set counted marks k true false there in
    let none : counted (get_or marks k false) ≡ counted false = ap counted unmarked in
    omega (arith, more, none)

pub count_noted : (it : LookedAt) (of : Container) → HasPlace it of → is_looked it of ≡ false → looked_count (noted of it) ≡ looked_count it + 1
count_noted it (Element a) place unmarked = let more = more_marks it.nodes a.0 place unmarked in omega (arith, more)
count_noted it (Document d) place unmarked = let more = more_marks it.views d.0 place unmarked in omega (arith, more)

touched_count : (of : Container) (it : Touched) → (touched of it).count ≡ min (suc it.count) last_number
touched_count (Element a) it = refl
touched_count (Document d) it = refl

pub touched_once : (scene : Scene) (before now : Seen) (was held : HeldClips) (of : Container) → HasRoom before of → now ≡ with_sighting of (sighting_in scene of) before →
    (sighting_of before of ≡ Some (sighting_in scene of) → held ≡ was) → ((¬ sighting_of before of ≡ Some (sighting_in scene of)) → held ≡ record was { touches = touched of (was.touches) }) →
    Looked scene before now was held → held.touches.count ≤ was.touches.count + 1
touched_once scene before now was held of room is same anew looked = elim (looked.spots.each of) [
  | inl left ↦
      let seen = sym left.sighting ∙ ap (λ (seen : Seen). sighting_of seen of) is ∙ seen_here before of (sighting_in scene of) room in
      let count : held.touches.count ≡ was.touches.count = ap (λ (clips : HeldClips). clips.touches.count) (same seen) in
      omega (arith, count)
  | inr differs ↦
      let count : held.touches.count ≡ min (suc was.touches.count) last_number = ap (λ (clips : HeldClips). clips.touches.count) (anew differs.differs) ∙ touched_count of was.touches in
      omega (arith, count)
]

-- spots that are left

pub left_then : (first second third : Seen) (was held last : Touched) (spot : Container) → IsLeft first second was held spot → IsLeft second third held last spot → IsLeft first third was last spot
left_then first second third was held last spot one two = record { touch = two.touch ∙ one.touch; sighting = two.sighting ∙ one.sighting }

pub left_there : (scene : Scene) (before now : Seen) (was held : HeldClips) (of spot : Container) (s : Sighting) → Looked scene before now was held → now ≡ with_sighting of s before → (¬ of ≡ spot) → IsLeft before now was.touches held.touches spot
left_there scene before now was held of spot s looked is apart = elim (looked.spots.each spot) [
  | inl left ↦ left
  | inr anew ↦ absurd (anew.differs (sym (ap (λ (seen : Seen). sighting_of seen spot) is ∙ seen_there before of spot s (λ e. apart (sym e))) ∙ anew.sighting))
]
