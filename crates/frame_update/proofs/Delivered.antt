-- What a delivery hands to a callback.
use Rattle.std.proofs.Common.{◌≡◌, ◌≤◌, arith, subst, sym}
use Rattle.std.proofs.lemmas.Int.{ints}
use Rattle.std.specs.Prelude.{ℕ, ◌+◌, ◌<◌, ℤ, pos, negsuc, ◌≤ℤ◌, ◌-ℤ◌, unsigned_abs, List, Option, length, map, IfSome, Result, Err}
use Rattle.std.specs.List.{AllByRecursion}
use Rattle.px_units.specs.Rects.{InReach}
use Rattle.text_io.specs.declared.kinds.Version.{Version}
use Rattle.text_io.specs.declared.kinds.Version.TheVariants.{First, Second}
use Rattle.trace_text.specs.Ranges.{SizeReaches, HasReach}
use Rattle.page_model.specs.World.{World, Name}
use Rattle.page_model.specs.Gathering.{SizeEntry}
use Rattle.page_model.specs.Operands.{ResizeEntry as Present}
use Rattle.page_model.specs.Ranges.{IsPresentIn}
use Rattle.page_model.specs.Runs.{Said, lifted}
use Rattle.page_model.specs.Callbacks.{SizeEntries, device_told, resize_line}
use Rattle.page_laws.proofs.Lists.{all-mapped}
use Rattle.resize_observer.specs.Observations.{seen_size}
use Rattle.depth_gather.specs.Entries.{seen_entry, IsLength, HasLengths}
use Rattle.depth_gather.specs.declared.entries.ResizeEntry.{ResizeEntry}
use Rattle.handlers.specs.Entries.{AreHanded}
use Rattle.trace_runs.specs.declared.faults.RunFault.{RunFault}
use Rattle.trace_runs.specs.declared.faults.RunFault.TheVariants.{Memory}
use Rattle.trace_runs.specs.Flows.{goes_on}
use Rattle.trace_runs.specs.Runs.{Runs}
use Rattle.trace_runs.proofs.Runs.{lifted_run}
use Rattle.frame_update.specs.Turns.{AreEntriesIn}

most : (units : ℤ) → IsLength units → unsigned_abs units ≤ 281474976710656
most (pos units) is = let high : pos units ≤ℤ pos 281474976710656 = is.1 in omega (arith, ints)
most (negsuc units) is = let low : pos 0 ≤ℤ negsuc units = is.0 in omega (arith, ints)

reaches : (units : ℕ) → units ≤ 562949953421312 → InReach (pos units)
reaches units few = record { low = omega (arith, ints); high = omega (arith, ints) }

across-reaches : (left width : ℕ) → width ≤ 562949953421312 → InReach (pos (left + width) -ℤ pos left)
across-reaches left width few = record { low = omega (arith, ints); high = omega (arith, ints) }

device-reaches : (version : Version) (entry : ResizeEntry) → HasLengths entry → IfSome (device_told version (seen_size entry.device)) SizeReaches
device-reaches First entry has = tt
device-reaches Second entry has =
    let width : unsigned_abs entry.device.width ≤ 281474976710656 = most entry.device.width has.device_width in
    let height : unsigned_abs entry.device.height ≤ 281474976710656 = most entry.device.height has.device_height in
    record { width = reaches (unsigned_abs entry.device.width) (omega (arith, width)); height = reaches (unsigned_abs entry.device.height) (omega (arith, height)) }

line-reaches : (version : Version) (names : List Name) (observer : ℕ) (entry : ResizeEntry) → HasLengths entry → HasReach (resize_line version names observer (seen_entry entry))
line-reaches version names observer entry has =
    let left : unsigned_abs entry.corner.left ≤ 281474976710656 = most entry.corner.left has.left in
    let top : unsigned_abs entry.corner.top ≤ 281474976710656 = most entry.corner.top has.top in
    let width : unsigned_abs entry.content.width ≤ 281474976710656 = most entry.content.width has.width in
    let height : unsigned_abs entry.content.height ≤ 281474976710656 = most entry.content.height has.height in
    let border_width : unsigned_abs entry.border.width ≤ 281474976710656 = most entry.border.width has.border_width in
    let border_height : unsigned_abs entry.border.height ≤ 281474976710656 = most entry.border.height has.border_height in (
      record {
        edges = record {
          left = reaches (unsigned_abs entry.corner.left) (omega (arith, left));
          top = reaches (unsigned_abs entry.corner.top) (omega (arith, top));
          right = reaches (unsigned_abs entry.corner.left + unsigned_abs entry.content.width) (omega (arith, left, width));
          bottom = reaches (unsigned_abs entry.corner.top + unsigned_abs entry.content.height) (omega (arith, top, height));
        };
        width = across-reaches (unsigned_abs entry.corner.left) (unsigned_abs entry.content.width) (omega (arith, width));
        height = across-reaches (unsigned_abs entry.corner.top) (unsigned_abs entry.content.height) (omega (arith, height));
      },
      record { width = reaches (unsigned_abs entry.border.width) (omega (arith, border_width)); height = reaches (unsigned_abs entry.border.height) (omega (arith, border_height)) },
      device-reaches version entry has,
    )

pub are_handed : (world : World) (observer : ℕ) (entries : List ResizeEntry) → observer < length world.resize_observers.made → AreEntriesIn world entries → AllByRecursion HasLengths entries
    → AreHanded world (SizeEntries observer (map seen_entry entries))
are_handed world observer entries made targets lengths = record {
  caller = made;
  targets =
      all-mapped (λ (entry : SizeEntry). entry.target < length world.tree.elements) (IsPresentIn world) (λ entry. Present (entry.target)) (λ entry is. is) (map seen_entry entries)
      (all-mapped (λ (entry : ResizeEntry). entry.target.0 < length world.tree.elements) (λ (entry : SizeEntry). entry.target < length world.tree.elements) seen_entry (λ entry is. is) entries targets);
  reach =
      all-mapped (λ (entry : SizeEntry). HasReach (resize_line (world.version) (world.names) observer entry)) HasReach (resize_line (world.version) (world.names) observer) (λ entry is. is) (map seen_entry entries)
      (all-mapped HasLengths (λ (entry : SizeEntry). HasReach (resize_line (world.version) (world.names) observer entry)) seen_entry (line-reaches (world.version) (world.names) observer) entries lengths);
}

-- a callback and what is done behind it, at its end and at a limit
pub turn_run : {A : Type 0} (change : World → World) (result : Result A RunFault) {now new : World} {before after : Option (List ℕ)} {f g : ℕ} {said : Said World}
    → new ≡ change now → Runs goes_on now result before after f g said → Runs goes_on new result before after f g (lifted change said)
turn_run change result {before = before} {after} {f} {g} {said} is run =
    subst (λ (world : World). Runs goes_on world result before after f g (lifted change said)) (sym is) (lifted_run change result run)

-- a callback for which no memory was left, with what was to be done behind it
pub memory_lifted : {A : Type 0} (change : World → World) {now new : World} {before after : Option (List ℕ)} {f g : ℕ} {said : Said World}
    → Runs {A = A} goes_on now (Err Memory) before after f g said → Runs {A = A} goes_on new (Err Memory) before after f g (lifted change said)
memory_lifted change run = record { ended = tt; cut_off = run.cut_off }
