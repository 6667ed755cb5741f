-- What a registration needs of the clips stays there when the clip of another one is computed.
use Rattle.std.proofs.Common.{◌≡◌, ◌∙◌, ℕ, Option, Some, None, ap, refl, sym, unwrap_or, option_map, is_some}
use Rattle.page_model.specs.World.{Root}
use Rattle.element_tree.specs.declared.container.Container.{Container}
use Rattle.clip_chain.specs.Worlds.{view_spot}
use Rattle.clip_chain.specs.Scenes.{Scene}
use Rattle.kept_clips.specs.declared.pair.Pair.{Pair}
use Rattle.kept_clips.specs.Held.{HeldClips, new_pair, pair_at, spots_of, spots_at}
use Rattle.kept_clips.specs.Chains.{IsExact}
use Rattle.candidate_index.specs.declared.scene.Standing.{Standing}
use Rattle.candidate_index.specs.declared.scene.Standing.TheVariants.{Apart, NoBox, Chained}
use Rattle.candidate_index.specs.Registrations.{IfChained, HasClip}

abbrev no_spots : Container × Container
no_spots = (view_spot 0, view_spot 0)

there : (o : Option Pair) → is_some (option_map spots_of o) ≡ is_some o
there None = refl
there (Some p) = refl

root_of : (o : Option Pair) → (unwrap_or (option_map spots_of o) no_spots).0 ≡ (unwrap_or o (new_pair (view_spot 0) (view_spot 0))).root
root_of None = refl
root_of (Some p) = refl

target_of_pair : (o : Option Pair) → (unwrap_or (option_map spots_of o) no_spots).1 ≡ (unwrap_or o (new_pair (view_spot 0) (view_spot 0))).of
target_of_pair None = refl
target_of_pair (Some p) = refl

pub has_clip_still : (scene : Scene) (old new : HeldClips) (serial : ℕ) (root : Root) (target : ℕ) → spots_at new serial ≡ spots_at old serial → (IsExact scene old serial → IsExact scene new serial) → HasClip scene old serial root target → HasClip scene new serial root target
has_clip_still scene old new serial root target spots exact has = record {
  held = sym (there (pair_at new serial)) ∙ ap (λ (o : Option (Container × Container)). is_some o) spots ∙ there (pair_at old serial) ∙ has.held;
  root_held = sym (root_of (pair_at new serial)) ∙ ap (λ (o : Option (Container × Container)). (unwrap_or o no_spots).0) spots ∙ root_of (pair_at old serial) ∙ has.root_held;
  target_held = sym (target_of_pair (pair_at new serial)) ∙ ap (λ (o : Option (Container × Container)). (unwrap_or o no_spots).1) spots ∙ target_of_pair (pair_at old serial) ∙ has.target_held;
  above = has.above;
  exact = exact has.exact;
}

pub if_still : (standing : Standing) (old new : Type 0) → (old → new) → IfChained standing old → IfChained standing new
if_still Apart old new f h = tt
if_still NoBox old new f h = tt
if_still Chained old new f h = f h
