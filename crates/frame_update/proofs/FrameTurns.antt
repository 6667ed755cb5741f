-- The frame callbacks of a document, handed out one after another.
use Rattle.std.proofs.Common.{◌≡◌, ◌∙◌, ℕ, Bool, true, false, List, Option, refl, ap, sym, subst, eqb-true}
use Rattle.std.specs.Prelude.{Some, None, find, option_map, ◌&&◌, ◌==◌, IfSome}
use Rattle.std.specs.List.{AllByRecursion}
use Rattle.script_model.specs.TraceLines.{FrameLine}
use Rattle.page_model.specs.Callbacks.{Script}
use Rattle.page_model.specs.Documents.{is_active}
use Rattle.page_model.specs.FrameCallbacks.{frame_callback_stands, frame_callbacks_of}
use Rattle.page_model.specs.Names.{document_text}
use Rattle.page_model.specs.Runs.{Said, silent, ◌followed_by◌}
use Rattle.page_model.specs.Ticks.{frame_steps, run_frame_callback}
use Rattle.page_model.specs.World.{FrameCallback, World}
use Rattle.event_tables.specs.Handed.{behind_first, one_by_one, run_and_then}
use Rattle.event_tables.specs.FrameCallbacks.{once_handed, told}
use Rattle.event_tables.proofs.Handing.{first_runs}
use Rattle.frame_update.proofs.Called.{told_call}
use Rattle.frame_update.proofs.Handed.{found_of_all, left_of_all, none_found, none_passes, passed_of_all}

-- a frame callback that was taken out: its line, and its callback
abbrev pub called_frame : Script → ℕ → List ℕ → ℕ → World → Said World
called_frame script document key handler world = told_call script document (Some handler) (FrameLine (document_text (world.names) document) key) world

-- whether a frame callback that was copied still stands, and its document is Active
abbrev pub stands_now : World → FrameCallback → Bool
stands_now now it = frame_callback_stands it (now.frame_callbacks)

abbrev pub is_called : ℕ → FrameCallback → World → Bool
is_called document it now = is_active (now.tree) document && stands_now now it

-- the frame callbacks that are left of a batch
abbrev pub frames_left : Script → ℕ → List FrameCallback → World → Said World
frames_left script document copied world = one_by_one (is_called document) (run_frame_callback script) copied world

-- all of them
pub frames_all : (script : Script) (document : ℕ) (world : World) → frame_steps script document world ≡ frames_left script document (frame_callbacks_of document (world.frame_callbacks)) world
unfolding frame_steps
frames_all script document world = refl

-- they are of one document
abbrev pub AreOf : ℕ → List FrameCallback → Type 0
AreOf document copied = AllByRecursion (λ (it : FrameCallback). it.document ≡ document) copied

pub copied_of : (document : ℕ) (world : World) → AreOf document (frame_callbacks_of document (world.frame_callbacks))
copied_of document world = passed_of_all (λ (it : FrameCallback). it.document ≡ document) (λ (it : FrameCallback). it.document == document) (λ it is. eqb-true _ _ is) (world.frame_callbacks.held)

module _ (script : Script) (document : ℕ) (copied : List FrameCallback) (before : World) where
  abbrev pub next_frame : Option FrameCallback
  next_frame = find (stands_now before) copied

  abbrev pub others_left : List FrameCallback
  others_left = behind_first (stands_now before) copied

  -- the world once it was handed out
  abbrev pub frame_handed : Option FrameCallback → World
  frame_handed found = record before { frame_callbacks = once_handed found (before.frame_callbacks) }

  -- the first that stands is run and then those behind it, by whether the document is Active
  abbrev turn_by : Bool → Said World
  turn_by active =
      run_and_then (is_called document) (run_frame_callback script) (find (λ (it : FrameCallback). active && stands_now before it) copied)
      (behind_first (λ (it : FrameCallback). active && stands_now before it) copied) before

  turn : (active : Bool) → is_active (before.tree) document ≡ active → frames_left script document copied before ≡ turn_by active
  turn active is = first_runs (is_called document) (run_frame_callback script) copied before ∙ ap turn_by is

  -- nothing is left where the document isn't Active any more
  pub frames_quiet : is_active (before.tree) document ≡ false → frames_left script document copied before ≡ silent before
  frames_quiet is =
      turn false is
      ∙ ap (λ (found : Option FrameCallback). run_and_then (is_called document) (run_frame_callback script) found (behind_first (λ (it : FrameCallback). false) copied) before) (none_passes copied)

  found-frame : (found : Option FrameCallback) (key : List ℕ) (handler : ℕ) → IfSome found (λ (it : FrameCallback). it.document ≡ document) → Some (key, handler) ≡ option_map told found
      → run_and_then (is_called document) (run_frame_callback script) found others_left before
      ≡ (called_frame script document key handler (frame_handed found) followed_by frames_left script document others_left)
  found-frame None key handler own is = absurd (cc)
  found-frame (Some it) key handler own is =
      let same : told it ≡ (key, handler) = cc in
      ap (λ (n : ℕ). called_frame script n (it.key) (it.handler) (frame_handed (Some it)) followed_by frames_left script document others_left) own
      ∙ ap (λ (called : List ℕ × ℕ). called_frame script document called.0 called.1 (frame_handed (Some it)) followed_by frames_left script document others_left) same

  -- one is handed out
  pub frames_more : (key : List ℕ) (handler : ℕ) (after : World) (rest : List FrameCallback) → is_active (before.tree) document ≡ true → AreOf document copied
      → Some (key, handler) ≡ option_map told next_frame → after ≡ frame_handed next_frame → rest ≡ others_left
      → frames_left script document copied before ≡ (called_frame script document key handler after followed_by frames_left script document rest)
  frames_more key handler after rest active own is changed same =
      turn true active
      ∙ found-frame next_frame key handler (found_of_all (λ (it : FrameCallback). it.document ≡ document) (stands_now before) copied own) is
      ∙ ap (λ (world : World). called_frame script document key handler world followed_by frames_left script document others_left) (sym changed)
      ∙ ap (λ (others : List FrameCallback). called_frame script document key handler after followed_by frames_left script document others) (sym same)

  none-handed : (found : Option FrameCallback) (after : World) → found ≡ None → after ≡ frame_handed found
      → run_and_then (is_called document) (run_frame_callback script) found others_left before ≡ silent after
  none-handed None after is changed = ap silent (sym changed)
  none-handed (Some it) after is changed = absurd (cc)

  -- none is left
  pub frames_none : (after : World) → is_active (before.tree) document ≡ true → None ≡ option_map told next_frame → after ≡ frame_handed next_frame
      → frames_left script document copied before ≡ silent after
  frames_none after active is changed = turn true active ∙ none-handed next_frame after (none_found told next_frame is) changed

  pub others_of : (rest : List FrameCallback) → rest ≡ others_left → AreOf document copied → AreOf document rest
  others_of rest same own = subst (AreOf document) (sym same) (left_of_all (λ (it : FrameCallback). it.document ≡ document) (stands_now before) copied own)
