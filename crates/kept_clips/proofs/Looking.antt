-- Spots that are looked at one after the other.
use Rattle.std.proofs.Common.{◌≡◌, ◌∙◌, ℕ, ◌≤◌, ◌<◌, true, List, Some, min, suc, ap, refl, sym, subst, inl, inr, arith, length-set}
use Rattle.std.specs.Prelude.{◌⊎◌}
use Rattle.element_tree.specs.declared.container.Container.{Container}
use Rattle.element_tree.specs.declared.container.Container.TheVariants.{Element, Document}
use Rattle.clip_chain.specs.Scenes.{Scene}
use Rattle.kept_clips.specs.declared.sightings.Sighting.{Sighting}
use Rattle.kept_clips.specs.Touches.{Touched, last_number, IsAdded, touched, touched_at}
use Rattle.kept_clips.specs.Held.{HeldClips, pair_of}
use Rattle.kept_clips.specs.Chains.{stands, IsExact}
use Rattle.kept_clips.specs.Scenes.{IsSpotwise}
use Rattle.kept_clips.specs.Seen.{Seen, sighting_of, scene_seen, sighting_in, with_sighting, HasRoom}
use Rattle.kept_clips.specs.Looked.{IsLeft, IsSeenAnew, ChangesByLooks, Looked, MayBeSeen}
use Rattle.kept_clips.proofs.Touching.{touched_here, untouched_there}
use Rattle.kept_clips.proofs.Spots.{same_or_apart}
use Rattle.kept_clips.proofs.Seeing.{seen_there, seen_here}

-- room stays
room_seen : (it : Seen) (of spot : Container) (s : Sighting) → HasRoom it spot → HasRoom (with_sighting of s it) spot
room_seen it (Element a) (Element b) s room = subst (λ n. b.0 < n) (sym (length-set it.nodes a.0 (Some s))) room
room_seen it (Element a) (Document d) s room = room
room_seen it (Document d) (Element b) s room = room
room_seen it (Document c) (Document d) s room = subst (λ n. d.0 < n) (sym (length-set it.views c.0 (Some s))) room

added_touched : (it : Touched) (of spot : Container) (number : ℕ) → IsAdded it spot → IsAdded (touched_at number of it) spot
added_touched it (Element a) (Element b) number added = subst (λ n. b.0 < n) (sym (length-set it.nodes a.0 number)) added
added_touched it (Element a) (Document d) number added = added
added_touched it (Document d) (Element b) number added = added
added_touched it (Document c) (Document d) number added = subst (λ n. d.0 < n) (sym (length-set it.views c.0 number)) added

module _ (scene : Scene) where
  pub changes_none : (seen : Seen) (touches : Touched) → ChangesByLooks scene seen seen touches touches
  changes_none seen touches = record { each = λ spot. inl (record { touch = refl; sighting = refl }); count = omega arith }

  pub looked_nowhere : (seen : Seen) (held : HeldClips) → Looked scene seen seen held held
  looked_nowhere seen held = record {
    spots = changes_none seen held.touches;
    pairs = refl;
    exact = λ view spotwise number exact. exact;
    stood = λ number chain current. current;
    room = λ spot room. room;
    added = λ spot added. added;
  }

  seen_or_left : (seen : Seen) (was : Touched) (of spot : Container) → HasRoom seen of → IsAdded was of → (¬ sighting_of seen of ≡ Some (sighting_in scene of))
      → IsLeft seen (with_sighting of (sighting_in scene of) seen) was (touched of was) spot ⊎ IsSeenAnew scene seen (with_sighting of (sighting_in scene of) seen) was (touched of was) spot
  seen_or_left seen was of spot room added differs = elim (same_or_apart of spot) [
    | inl same ↦ inr (subst (λ (s : Container). IsSeenAnew scene seen (with_sighting of (sighting_in scene of) seen) was (touched of was) s) (sym same) (record {
      differs = differs;
      sighting = seen_here seen of (sighting_in scene of) room;
      touch = let here = touched_here of was (min (suc was.count) last_number) added in omega arith;
    }))
    | inr apart ↦ inl (record { touch = untouched_there of spot was (min (suc was.count) last_number) apart; sighting = seen_there seen of spot (sighting_in scene of) apart })
  ]

  -- one spot that is seen anew
  pub looked_once : (seen now : Seen) (was held : HeldClips) (of : Container) → HasRoom seen of → IsAdded was.touches of → (¬ sighting_of seen of ≡ Some (sighting_in scene of))
      → now ≡ with_sighting of (sighting_in scene of) seen → held ≡ record was { touches = touched of (was.touches) }
      → was.touches.count ≤ held.touches.count
      → ((view : Scene → Scene) → IsSpotwise view → (number : ℕ) → IsExact (view (scene_seen seen)) was number → IsExact (view (scene_seen now)) held number)
      → ((number : ℕ) (chain : List Container) → stands held.touches (pair_of was number).computed chain ≡ true → stands was.touches (pair_of was number).computed chain ≡ true)
      → Looked scene seen now was held
  looked_once seen now was held of room added differs is is_held count exact stood = record {
    spots = record {
      each = λ spot.
          subst (λ (n : Seen). IsLeft seen n was.touches held.touches spot ⊎ IsSeenAnew scene seen n was.touches held.touches spot) (sym is)
          (subst (λ (h : HeldClips). IsLeft seen (with_sighting of (sighting_in scene of) seen) was.touches h.touches spot ⊎ IsSeenAnew scene seen (with_sighting of (sighting_in scene of) seen) was.touches h.touches spot) (sym is_held)
          (seen_or_left seen was.touches of spot room added differs));
      count = count;
    };
    pairs = ap (λ (h : HeldClips). h.pairs) is_held;
    exact = exact;
    stood = stood;
    room = λ spot has. subst (λ (n : Seen). HasRoom n spot) (sym is) (room_seen seen of spot (sighting_in scene of) has);
    added = λ spot has. subst (λ (h : HeldClips). IsAdded h.touches spot) (sym is_held) (added_touched was.touches of spot (min (suc was.touches.count) last_number) has);
  }

  module _ (first second third : Seen) (was held last : Touched) where
    each_then : was.count ≤ held.count → (spot : Container)
        → IsLeft first second was held spot ⊎ IsSeenAnew scene first second was held spot
        → IsLeft second third held last spot ⊎ IsSeenAnew scene second third held last spot
        → IsLeft first third was last spot ⊎ IsSeenAnew scene first third was last spot
    each_then count spot (inl one) (inl two) = inl (record { touch = two.touch ∙ one.touch; sighting = two.sighting ∙ one.sighting })
    each_then count spot (inl one) (inr two) = inr (record { differs = λ e. two.differs (one.sighting ∙ e); sighting = two.sighting; touch = let later = two.touch in omega arith })
    each_then count spot (inr one) (inl two) = inr (record { differs = one.differs; sighting = two.sighting ∙ one.sighting; touch = let then = one.touch in let same = two.touch in omega arith })
    each_then count spot (inr one) (inr two) = inr (record { differs = one.differs; sighting = two.sighting; touch = let later = two.touch in omega arith })

    -- looks one after the other
    pub changes_then : ChangesByLooks scene first second was held → ChangesByLooks scene second third held last → ChangesByLooks scene first third was last
    changes_then one two = record {
      each = λ spot. each_then one.count spot (one.each spot) (two.each spot);
      count = let a = one.count in let b = two.count in omega arith;
    }

  pub looked_then : (first second third : Seen) (was held last : HeldClips) → Looked scene first second was held → Looked scene second third held last → Looked scene first third was last
  looked_then first second third was held last one two = record {
    spots = changes_then first second third was.touches held.touches last.touches one.spots two.spots;
    pairs = two.pairs ∙ one.pairs;
    exact = λ view spotwise number exact. two.exact view spotwise number (one.exact view spotwise number exact);
    stood = λ number chain current.
        one.stood number chain
        (subst (λ pairs. stands held.touches (pair_of (record held { pairs = pairs }) number).computed chain ≡ true) one.pairs
        (two.stood number chain
        (subst (λ pairs. stands last.touches (pair_of (record held { pairs = pairs }) number).computed chain ≡ true) (sym one.pairs) current)));
    room = λ spot room. two.room spot (one.room spot room);
    added = λ spot added. two.added spot (one.added spot added);
  }

  pub may_after : (before now : Seen) (was held : HeldClips) (spot : Container) → Looked scene before now was held → MayBeSeen before was spot → MayBeSeen now held spot
  may_after before now was held spot looked may = record { room = looked.room spot may.room; added = looked.added spot may.added }
