-- What is kept of registrations from update to update: what was last seen of each spot, the clips between targets and roots, and
-- the last findings.
use Rattle.std.specs.Prelude.{◌≡◌, ℕ, [], Option, None}
use Rattle.std.specs.Ordering.{nat_cmp}
use Rattle.std.specs.FinMap.{FinMap, empty, insert, remove}
use Rattle.element_tree.specs.declared.container.Container.{Container}
use Rattle.kept_clips.specs.Touches.{last_touch, with_spot}
use Rattle.kept_clips.specs.Held.{HeldClips, with_pair, without_pair}
use Rattle.kept_clips.specs.Seen.{Seen, sighting_of, with_room}
use Rattle.kept_clips.specs.Looked.{MayBeSeen}
use Rattle.candidate_index.specs.declared.index.Kept.{Kept}

pub record HeldFindings : Type 0 where
  pub seen : Seen
  pub clips : HeldClips
  pub kept : FinMap nat_cmp (Option Kept)

abbrev pub no_findings : HeldFindings
no_findings = record {
  seen = record { nodes = []; views = [] };
  clips = record { touches = record { count = 0; nodes = []; views = [] }; pairs = empty };
  kept = empty;
}

-- adds a registration with these spots that was never computed
abbrev pub with_findings : ℕ → Container → Container → HeldFindings → HeldFindings
with_findings serial root target it = record it { clips = with_pair serial root target (it.clips); kept = insert (it.kept) serial None }

abbrev pub without_findings : ℕ → HeldFindings → HeldFindings
without_findings serial it = record it { clips = without_pair serial (it.clips); kept = remove (it.kept) serial }

-- from here on a registration counts as never computed
abbrev pub with_expired : ℕ → HeldFindings → HeldFindings
with_expired serial it = record it { kept = insert (it.kept) serial None }

-- makes room for what was last seen of a spot and of all spots of its kind with lower numbers
abbrev pub with_room_to_see : Container → HeldFindings → HeldFindings
with_room_to_see spot it = record it { seen = with_room spot (it.seen) }

-- the same, and they may be touched
abbrev pub with_room_for : Container → HeldFindings → HeldFindings
with_room_for spot it = record (with_room_to_see spot it) { clips = record (it.clips) { touches = with_spot spot (it.clips.touches) } }

-- nothing changes, except that there may be room for more spots
pub record IsRoomier (before now : HeldFindings) : Type 0 where
  pub pairs : now.clips.pairs ≡ before.clips.pairs
  pub kept : now.kept ≡ before.kept
  pub seen : (spot : Container) → sighting_of now.seen spot ≡ sighting_of before.seen spot
  pub count : now.clips.touches.count ≡ before.clips.touches.count
  pub touches : (spot : Container) → last_touch now.clips.touches spot ≡ last_touch before.clips.touches spot
  pub room : (spot : Container) → MayBeSeen before.seen before.clips spot → MayBeSeen now.seen now.clips spot
