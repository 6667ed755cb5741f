-- An observer whose registration for a target is settled, by what is written into its fields.
use Rattle.std.proofs.Common.{◌≡◌, ℕ, ◌∙◌, ap, sym, set}
use Rattle.std.specs.Prelude.{true, List, [], ◌∷◌, ◌++◌, map, slice_get, Some, None, cond, option_to_list}
use Rattle.std.proofs.lemmas.List.{map_push}
use Rattle.indexmap.specs.IndexMap.{set_value_at}
use Rattle.page_model.specs.World.{Registration, IntersectionObserver, Entry as ModelEntry}
use Rattle.page_model.specs.Intersections.{is_news, settled}
use Rattle.intersection_observer.specs.declared.entry.Finding.{Finding}
use Rattle.intersection_observer.specs.declared.entry.Entry.{Entry}
use Rattle.intersection_observer.specs.declared.registration.Registered.{Registered}
use Rattle.intersection_observer.specs.Seen.{seen_registration, seen_finding, seen_entry, seen_entries}
use Rattle.intersection_observer.specs.Settling.{settled_at}
use Rattle.intersection_observer.proofs.Only.{IsOnly, settled-only}
use Rattle.intersection_observer.proofs.Entries.{value_set}

abbrev pub updated : Finding → Registered → Registered
updated finding before = record before { previous = Some (finding.index); met = finding.meets }

pub settled-written :
    (n time place : ℕ) (finding : Finding) (entries : List (ℕ × Registered)) (before : Registered) (queue after : List Entry) {it now : IntersectionObserver} →
    it ≡ now → map seen_registration entries ≡ it.registrations → seen_entries queue ≡ it.queue →
    slice_get entries place ≡ Some (n, before) → IsOnly n place (seen_registration (n, before)) (it.registrations) → is_news (seen_registration (n, before)) (seen_finding finding) ≡ true →
    after ≡ queue ++ record { target = record { 0 = n }; time = time; finding = finding } ∷ [] →
    record it { registrations = map seen_registration (set_value_at entries place (updated finding before)); queue = seen_entries after } ≡ settled_at n time (seen_finding finding) now
settled-written n time place finding entries before queue after {it} {now} view these those at only news more =
    let was : Registration = seen_registration (n, before) in
    let entry : Entry = record { target = record { 0 = n }; time = time; finding = finding } in
    ap (λ (registrations : List Registration). record it { registrations = registrations; queue = seen_entries after })
    (value_set entries place (n, before) (updated finding before) at ∙ ap (λ (registrations : List Registration). set registrations place (settled time (seen_finding finding) was).registration) these)
    ∙ ap (λ (entries : List ModelEntry). record it { registrations = set (it.registrations) place (settled time (seen_finding finding) was).registration; queue = entries })
    (ap seen_entries more ∙ map_push seen_entry queue entry ∙ ap (λ (entries : List ModelEntry). entries ++ seen_entry entry ∷ []) those)
    ∙ ap (λ b. record it { registrations = set (it.registrations) place (settled time (seen_finding finding) was).registration; queue = it.queue ++ option_to_list (cond b (Some (seen_entry entry)) None) }) (sym news)
    ∙ settled-only n time place (seen_finding finding) was it only
    ∙ ap (settled_at n time (seen_finding finding)) view
