-- The block of a handler of a script.
use Rattle.std.proofs.Common.{◌≡◌, ℕ, List, true, false, Option, Some, None, refl, ap, sym, ◌∙◌}
use Rattle.std.specs.Prelude.{slice_get, option_map, unwrap_or}
use Rattle.script_model.specs.Scripts.{NamedBlock}
use Rattle.script_model.specs.Syntax.{Block, NoMore}
use Rattle.event_tables.specs.declared.events.HandlerId.{HandlerId}
use Rattle.page_model.specs.Callbacks.{Script, Entries, call, entry_lines, handler_block, presents, run_block, run_handler}
use Rattle.page_model.specs.Documents.{is_active}
use Rattle.page_model.specs.Operands.{NoEntry}
use Rattle.page_model.specs.Runs.{silent, say, ◌followed_by◌, only_if, caught, caught_flow}
use Rattle.page_model.specs.World.{World}
use Rattle.trace_runs.proofs.Runs.{only_if_true, only_if_false}

pub handler_is : (script : List NamedBlock) (number : ℕ) (found : NamedBlock) → Some found ≡ slice_get script number → handler_block script number ≡ found.block
handler_is script number found is = ap (λ (at : Option NamedBlock). unwrap_or (option_map (λ (it : NamedBlock). it.block) at) NoMore) (sym is)

pub no_handler_is : (script : List NamedBlock) (number : ℕ) → None ≡ slice_get script number → handler_block script number ≡ NoMore
no_handler_is script number is = ap (λ (at : Option NamedBlock). unwrap_or (option_map (λ (it : NamedBlock). it.block) at) NoMore) (sym is)

-- a callback ---------------------------------------------------------------------------------------------------------------

module _ (script : Script) (document : ℕ) (handler : Option ℕ) (handed : Entries) (world : World) where
  call-is : only_if (λ now. say (entry_lines (now.version) (now.names) handed) now followed_by run_handler script handed handler) world (is_active (world.tree) document) ≡ call script document handler handed world
  unfolding call
  call-is = refl

  pub call_inactive : is_active (world.tree) document ≡ false → silent world ≡ call script document handler handed world
  call_inactive inactive = sym (only_if_false (λ now. say (entry_lines (now.version) (now.names) handed) now followed_by run_handler script handed handler) world inactive) ∙ call-is

  pub call_active : is_active (world.tree) document ≡ true → say (entry_lines (world.version) (world.names) handed) world followed_by run_handler script handed handler ≡ call script document handler handed world
  call_active active = sym (only_if_true (λ now. say (entry_lines (now.version) (now.names) handed) now followed_by run_handler script handed handler) world active) ∙ call-is

-- a handler without a block says nothing
pub unnamed_is : (script : Script) (handed : Entries) (number : ℕ) (world : World) → handler_block script number ≡ NoMore → silent world ≡ run_handler script handed (Some number) world
unfolding run_block caught caught_flow
unnamed_is script handed number world none = ap (λ block. caught (run_block script (presents handed) block NoEntry world)) (sym none)

pub named_is : (script : Script) (handed : Entries) (number : ℕ) (world : World) (block : Block) → handler_block script number ≡ block
    → caught (run_block script (presents handed) block NoEntry world) ≡ run_handler script handed (Some number) world
named_is script handed number world block is = ap (λ it. caught (run_block script (presents handed) it NoEntry world)) (sym is)

pub no_handler : (script : Script) (handed : Entries) (world : World) (handler : Option HandlerId) → handler ≡ None
    → silent world ≡ run_handler script handed (option_map (λ (it : HandlerId). it.0) handler) world
no_handler script handed world handler none = ap (λ (it : Option HandlerId). run_handler script handed (option_map (λ (number : HandlerId). number.0) it) world) (sym none)
