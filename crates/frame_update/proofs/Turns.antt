-- The rounds of a resize loop: what is handed to a callback, and how it goes on.
use Rattle.std.proofs.Common.{◌≡◌, refl, ap, sym, ◌∙◌, arith}
use Rattle.std.proofs.Math.Bool.{and-false}
use Rattle.std.proofs.lemmas.Bool.{lt-ltb, le-ltb}
use Rattle.std.specs.Prelude.{ℕ, zero, suc, nat_lt, Bool, true, false, ◌&&◌, cond, Option, None}
use Rattle.text_io.specs.declared.kinds.EventKind.TheVariants as events
use Rattle.script_model.specs.TraceLines.{FiredError}
use Rattle.page_model.specs.World.{World, WindowTarget}
use Rattle.page_model.specs.Documents.{is_active}
use Rattle.page_model.specs.Names.{document_text}
use Rattle.page_model.specs.Gathering.{has_skipped}
use Rattle.page_model.specs.Runs.{silent}
use Rattle.page_model.specs.Callbacks.{Script, fire}
use Rattle.page_model.specs.Loop.{report_skipped}
use Rattle.trace_runs.proofs.Runs.{only_if_false}

-- nothing is active where nothing was counted
count-none : (count : ℕ) → 0 ≡ count → nat_lt 0 count ≡ false
count-none zero none = le-ltb 0 0 (omega arith)
count-none (suc count) none = absurd (omega (arith, none))

count-some : (count : ℕ) → ((0 ≡ count) → ⊥) → nat_lt 0 count ≡ true
count-some zero some = absurd (some refl)
count-some (suc count) some = lt-ltb 0 (suc count) (omega arith)

pub none_active : {A : Type 0} (count : ℕ) (active : Bool) (found : Option A) → active ≡ nat_lt 0 count → 0 ≡ count → None ≡ cond active found None
none_active count active found is none = ap (λ (test : Bool). cond test found None) (sym (is ∙ count-none count none))

pub some_active : {A : Type 0} (count : ℕ) (active : Bool) (found : Option A) → active ≡ nat_lt 0 count → ((0 ≡ count) → ⊥) → found ≡ cond active found None
some_active count active found is some = ap (λ (test : Bool). cond test found None) (sym (is ∙ count-some count some))

-- nothing is reported where the document isn't Active, or nothing was skipped
module _ (script : Script) (document : ℕ) (world : World) where
  pub unreported_left : is_active (world.tree) document ≡ false → silent world ≡ report_skipped script document world
  unreported_left fails = sym (only_if_false (fire script (FiredError (document_text (world.names) document)) (WindowTarget document) events.Error) world
      (ap (λ test. test && has_skipped document (world.resize_observers)) fails))

  pub unreported_none : has_skipped document (world.resize_observers) ≡ false → silent world ≡ report_skipped script document world
  unreported_none fails = sym (only_if_false (fire script (FiredError (document_text (world.names) document)) (WindowTarget document) events.Error) world
      (ap (λ test. is_active (world.tree) document && test) fails ∙ and-false (is_active (world.tree) document)))
