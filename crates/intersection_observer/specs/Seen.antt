-- What the types of this crate stand for in the definitions.
use Rattle.std.specs.Prelude.{ℕ, List, map}
use Rattle.page_model.specs.World as model
use Rattle.intersection_observer.specs.declared.root.Root.{Root}
use Rattle.intersection_observer.specs.declared.root.Root.TheVariants.{Implicit, Document, Node}
use Rattle.intersection_observer.specs.declared.entry.Finding.{Finding}
use Rattle.intersection_observer.specs.declared.entry.Entry.{Entry}
use Rattle.intersection_observer.specs.declared.registration.RegistrationId.{RegistrationId}
use Rattle.intersection_observer.specs.declared.registration.Registered.{Registered}

abbrev pub seen_root : Root → model.Root
seen_root Implicit = model.ImplicitRoot
seen_root (Document document) = model.DocumentRoot document.0
seen_root (Node node) = model.ElementRoot node.0

abbrev pub seen_finding : Finding → model.Finding
seen_finding it = record {
  index = it.index;
  meets = it.meets;
  part = it.ratio.part;
  whole = it.ratio.whole;
  root = it.root;
  bounds = it.target;
  cut = it.cut;
}

abbrev pub seen_entry : Entry → model.Entry
seen_entry it = record { target = it.target.0; time = it.time; finding = seen_finding it.finding }

abbrev pub seen_entries : List Entry → List model.Entry
seen_entries entries = map seen_entry entries

-- a registration, which is kept under its target
abbrev pub seen_registration : ℕ × Registered → model.Registration
seen_registration (target, it) = record {
  serial = it.registration.0;
  target = target;
  previous_index = it.previous;
  met = it.met;
}

abbrev pub serial_numbers : List RegistrationId → List ℕ
serial_numbers registrations = map (λ (it : RegistrationId). it.0) registrations
