-- What the types of the event tables stand for in the definitions.
use Rattle.page_model.specs.World as model
use Rattle.event_tables.specs.declared.events.EventTarget.{EventTarget}
use Rattle.event_tables.specs.declared.events.EventTarget.TheVariants as target
use Rattle.event_tables.specs.declared.events.TargetKey.{TargetKey}
use Rattle.event_tables.specs.declared.events.TargetKey.TheVariants as key
use Rattle.event_tables.specs.declared.events.Task.{Task}
use Rattle.event_tables.specs.declared.events.Task.TheVariants as task
use Rattle.event_tables.specs.declared.listeners.Listener.{Listener}
use Rattle.event_tables.specs.declared.listeners.ListenerKey.{ListenerKey}
use Rattle.event_tables.specs.declared.events.HandlerId.{HandlerId}
use Rattle.event_tables.specs.declared.callbacks.Callback.{Callback}
use Rattle.event_tables.specs.declared.callbacks.DocumentKey.{DocumentKey}
use Rattle.event_tables.specs.declared.timers.Timer.{Timer}
use Rattle.event_tables.specs.declared.timers.DueTimer.{DueTimer}
use Rattle.event_tables.specs.Entries.{Entry}

abbrev pub seen_target : EventTarget → model.EventTarget
seen_target (target.Node element) = model.ElementTarget element.0
seen_target (target.Document document) = model.DocumentTarget document.0
seen_target (target.Window document) = model.WindowTarget document.0
seen_target (target.Query number) = model.QueryTarget number

abbrev pub seen_task : Task → model.Task
seen_task (task.Notify document) = model.Notify document.0
seen_task (task.Posted document handler) = model.Posted document.0 handler.0

abbrev pub seen_key : TargetKey → model.EventTarget
seen_key (key.Node element) = model.ElementTarget element
seen_key (key.Document document) = model.DocumentTarget document.0
seen_key (key.Window document) = model.WindowTarget document.0
seen_key (key.Query number) = model.QueryTarget number

-- a listener that was copied
abbrev pub seen_copy : Listener → model.Listener
seen_copy it =
    record { serial = it.serial; target = seen_key it.key.target; event = it.key.kind; handler = it.key.handler.0 }

-- a callback that was copied: a frame callback, or a timer without its due time
abbrev pub seen_callback : Callback → model.FrameCallback
seen_callback it = record { serial = it.serial; document = it.key.document.0; key = it.key.key; handler = it.handler.0 }

-- an entry of each table
abbrev pub seen_frame_callback : Entry DocumentKey HandlerId → model.FrameCallback
seen_frame_callback it = record { serial = it.0; document = it.1.0.document.0; key = it.1.0.key; handler = it.1.1.0 }

abbrev pub seen_timer : Entry DocumentKey Timer → model.Timer
seen_timer it =
    record { serial = it.0; document = it.1.0.document.0; key = it.1.0.key; due = it.1.1.due; handler = it.1.1.handler.0 }

-- a timer that was copied
abbrev pub seen_due_timer : DueTimer → model.Timer
seen_due_timer it = record {
  serial = it.callback.serial;
  document = it.callback.key.document.0;
  key = it.callback.key.key;
  due = it.due;
  handler = it.callback.handler.0;
}

abbrev pub seen_listener : Entry ListenerKey (Unit {0}) → model.Listener
seen_listener it =
    record { serial = it.0; target = seen_key it.1.0.target; event = it.1.0.kind; handler = it.1.0.handler.0 }
