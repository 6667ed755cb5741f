use Rattle.std.proofs.Common.{◌≡◌, ℕ, ◌+◌, ◌≤◌, ◌++◌, List, length, drop, filter, vec_len}
use Rattle.std.specs.Prelude.{vec_capacity}
use Rattle.std.specs.List.{All}
use Rattle.element_tree.specs.declared.container.Container.{Container}
use Rattle.intersection_observer.specs.Seen.{serial_numbers}
use Rattle.kept_clips.specs.Chains.{IsExact}
use Rattle.candidate_index.specs.Registrations.{serials_at, IsReady, IsBetween}
use Rattle.candidate_index.specs.Asked.{all_asked, all_steps}
use Rattle.candidate_index.specs.Held.{is_stale_now}
use Rattle.candidate_index.proofs.index.Index.stale_registrations.Given as goal

abbrev pub invariant-loop-registration : goal.invariant-loop-registration
invariant-loop-registration g l =
    let scene = g.S.Geometry.scene l.scene in
    let standings = g.S.Scene.standings l.scene in
    let it = l.watchers.part in
    let serials = serials_at it l.fn.watcher.0 in
    let rest = serial_numbers (drop l.registration-index l.registrations) in
    record {
      ready : (other : ℕ) → IsReady scene standings it l.fn.clips other → IsReady scene standings it l.clips other;
      exact : (other : ℕ) → IsExact scene l.fn.clips other → IsExact scene l.clips other;
      room : vec_len l.stale ≤ l.registration-index;
      capacity : vec_capacity l.stale ≡ length l.registrations;
      stale : (between : ℕ → List Container) → All (IsBetween scene standings it between) serials → serial_numbers l.stale.items ++ filter (is_stale_now scene standings it between l.self) rest ≡ filter (is_stale_now scene standings it between l.self) serials;
      clips : (between : ℕ → List Container) → All (IsBetween scene standings it between) serials → all_asked scene standings it between rest l.clips ≡ all_asked scene standings it between serials l.fn.clips;
      ticks : (between : ℕ → List Container) → All (IsBetween scene standings it between) serials → l.steps + all_steps scene standings it between rest l.clips ≡ l.fn.steps + all_steps scene standings it between serials l.fn.clips;
    }
