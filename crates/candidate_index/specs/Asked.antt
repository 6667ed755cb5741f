-- The clips after those of registrations were requested, and the steps that this takes.
use Rattle.std.specs.Prelude.{ℕ, ◌+◌, cond, List, [], ◌∷◌, length}
use Rattle.page_model.specs.World.{Root, IntersectionObservers}
use Rattle.element_tree.specs.declared.container.Container.{Container}
use Rattle.clip_chain.specs.Scenes.{Scene}
use Rattle.kept_clips.specs.Clips.{clip_between}
use Rattle.kept_clips.specs.Held.{HeldClips, with_clip}
use Rattle.kept_clips.specs.Chains.{is_current}
use Rattle.candidate_index.specs.declared.scene.Standing.{Standing}
use Rattle.candidate_index.specs.declared.scene.Standing.TheVariants.{Apart, NoBox, Chained}
use Rattle.candidate_index.specs.Registrations.{standing_for}

-- a clip that isn't current is computed and held
abbrev pub asked : Scene → List Container → ℕ → HeldClips → HeldClips
asked scene between serial clips = cond (is_current clips serial between) clips (with_clip serial (clip_between scene between) clips)

-- one step for each spot strictly between if the clip is computed, else none
abbrev pub steps_asked : List Container → ℕ → HeldClips → ℕ
steps_asked between serial clips = cond (is_current clips serial between) 0 (length between)

-- a clip is requested only for a registration whose chain leads to the root

abbrev pub asked_if : Standing → Scene → List Container → ℕ → HeldClips → HeldClips
asked_if Apart scene between serial clips = clips
asked_if NoBox scene between serial clips = clips
asked_if Chained scene between serial clips = asked scene between serial clips

abbrev pub steps_if : Standing → List Container → ℕ → HeldClips → ℕ
steps_if Apart between serial clips = 0
steps_if NoBox between serial clips = 0
steps_if Chained between serial clips = steps_asked between serial clips

abbrev pub asked_for : Scene → (Root → ℕ → Standing) → IntersectionObservers → (ℕ → List Container) → ℕ → HeldClips → HeldClips
asked_for scene standings it between serial clips = asked_if (standing_for standings it serial) scene (between serial) serial clips

abbrev pub steps_for : Scene → (Root → ℕ → Standing) → IntersectionObservers → (ℕ → List Container) → ℕ → HeldClips → ℕ
steps_for scene standings it between serial clips = steps_if (standing_for standings it serial) (between serial) serial clips

-- one registration after the other

abbrev pub all_asked : Scene → (Root → ℕ → Standing) → IntersectionObservers → (ℕ → List Container) → List ℕ → HeldClips → HeldClips
all_asked scene standings it between [] clips = clips
all_asked scene standings it between (serial ∷ serials) clips =
    all_asked scene standings it between serials (asked_for scene standings it between serial clips)

abbrev pub all_steps : Scene → (Root → ℕ → Standing) → IntersectionObservers → (ℕ → List Container) → List ℕ → HeldClips → ℕ
all_steps scene standings it between [] clips = 0
all_steps scene standings it between (serial ∷ serials) clips =
    steps_for scene standings it between serial clips + all_steps scene standings it between serials (asked_for scene standings it between serial clips)
