-- Keys of listeners, compared as the definitions compare listeners.
use Rattle.std.proofs.Common.{◌≡◌, ℕ, ◌∙◌, refl}
use Rattle.std.specs.Prelude.{Bool, true, false, ◌&&◌, ◌==◌}
use Rattle.text_io.specs.declared.kinds.EventKind.{EventKind}
use Rattle.text_io.specs.declared.kinds.EventKind.TheVariants as kind
use Rattle.text_io.specs.contracts.kinds.EventKindPartialEq.TheImpl as kinds
use Rattle.page_model.specs.World.{EventTarget}
use Rattle.page_model.specs.Listeners.{is_same_target, is_same_event, is_listener}
use Rattle.event_tables.specs.declared.events.TargetKey.{TargetKey}
use Rattle.event_tables.specs.declared.events.TargetKey.TheVariants as key
use Rattle.event_tables.specs.contracts.events.TargetKeyPartialEq.TheImpl as targets
use Rattle.event_tables.specs.declared.listeners.ListenerKey.{ListenerKey}
use Rattle.event_tables.specs.contracts.listeners.ListenerKeyPartialEq.TheImpl as keys
use Rattle.event_tables.specs.Entries.{Entry, has_key}
use Rattle.event_tables.specs.Seen.{seen_key, seen_listener}

same_target : (a b : TargetKey) → (targets.ghosts).eq a b ≡ is_same_target (seen_key a) (seen_key b)
same_target (key.Node a) (key.Node b) = refl
same_target (key.Node a) (key.Document b) = refl
same_target (key.Node a) (key.Window b) = refl
same_target (key.Node a) (key.Query b) = refl
same_target (key.Document a) (key.Node b) = refl
same_target (key.Document a) (key.Document b) = refl
same_target (key.Document a) (key.Window b) = refl
same_target (key.Document a) (key.Query b) = refl
same_target (key.Window a) (key.Node b) = refl
same_target (key.Window a) (key.Document b) = refl
same_target (key.Window a) (key.Window b) = refl
same_target (key.Window a) (key.Query b) = refl
same_target (key.Query a) (key.Node b) = refl
same_target (key.Query a) (key.Document b) = refl
same_target (key.Query a) (key.Window b) = refl
same_target (key.Query a) (key.Query b) = refl

same_kind : (a b : EventKind) → (kinds.ghosts).eq a b ≡ is_same_event a b
same_kind kind.Resize kind.Resize = refl
same_kind kind.Resize kind.Scroll = refl
same_kind kind.Resize kind.Error = refl
same_kind kind.Resize kind.Change = refl
same_kind kind.Scroll kind.Resize = refl
same_kind kind.Scroll kind.Scroll = refl
same_kind kind.Scroll kind.Error = refl
same_kind kind.Scroll kind.Change = refl
same_kind kind.Error kind.Resize = refl
same_kind kind.Error kind.Scroll = refl
same_kind kind.Error kind.Error = refl
same_kind kind.Error kind.Change = refl
same_kind kind.Change kind.Resize = refl
same_kind kind.Change kind.Scroll = refl
same_kind kind.Change kind.Error = refl
same_kind kind.Change kind.Change = refl

apart : (p q r : Bool) → (p && (q && r)) ≡ ((p && q) && r)
apart true q r = refl
apart false q r = refl

same_key : (a b : ListenerKey) → (keys.ghosts).eq a b ≡ (is_same_target (seen_key a.target) (seen_key b.target) && is_same_event a.kind b.kind && a.handler.0 == b.handler.0)
same_key a b =
    (λ j. same_target a.target b.target j && (same_kind a.kind b.kind j && a.handler.0 == b.handler.0))
    ∙ apart (is_same_target (seen_key a.target) (seen_key b.target)) (is_same_event a.kind b.kind) (a.handler.0 == b.handler.0)

-- an entry has a key where it is the listener of the key's parts
pub is_its_listener : (key : ListenerKey) (target : EventTarget) (event : EventKind) (handler : ℕ) → seen_key key.target ≡ target → key.kind ≡ event → key.handler.0 ≡ handler
    → has_key (keys.ghosts).eq key ≡ (λ (entry : Entry ListenerKey (Unit {0})). is_listener target event handler (seen_listener entry))
is_its_listener key target event handler at for_event by =
    (λ j entry. same_key key entry.1.0 j)
    ∙ (λ j entry. is_listener (at j) (for_event j) (by j) (seen_listener entry))
