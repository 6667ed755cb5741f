-- Codes of commands and blocks: trees of numbers that tell them apart.
use Rattle.std.proofs.Common.{◌≡◌, refl}
use base.Stored.{Gv, gnil, gnum, gcons}
use Rattle.std.specs.Coded.{Coded, codes}
use Rattle.script_model.specs.Reading.{State}
use Rattle.script_model.specs.Syntax.{Action, Condition, Command, Simple, Each, When, Block, NoMore, Then, Item, Script}

pub action_code : Coded Action
action_code = hlevel codes

pub condition_code : Coded Condition
condition_code = hlevel codes

abbrev mutual
  code_of_command : Command → Gv
  code_of_command (Simple line action) = gcons gnil (gcons (gnum line) (action_code.code action))
  code_of_command (Each line block end_line) =
      gcons (gnum 0) (gcons (gnum line) (gcons (code_of_block block) (gnum end_line)))
  code_of_command (When line condition block end_line) =
      gcons (gcons gnil gnil) (gcons (gnum line) (gcons (condition_code.code condition) (gcons (code_of_block block) (gnum end_line))))

  code_of_block : Block → Gv
  code_of_block NoMore = gnil
  code_of_block (Then command others) = gcons (code_of_command command) (code_of_block others)

mutual
  command_inj : (x y : Command) → code_of_command x ≡ code_of_command y → x ≡ y
  command_inj (Simple l a) (Simple m b) p =
      let q : action_code.code a ≡ action_code.code b = cc in
      let e : a ≡ b = action_code.inj a b q in cc
  command_inj (Each l a d) (Each m b e) p =
      let q : code_of_block a ≡ code_of_block b = cc in
      let r : a ≡ b = block_inj a b q in cc
  command_inj (When l c a d) (When m k b e) p =
      let q : code_of_block a ≡ code_of_block b = cc in
      let s : condition_code.code c ≡ condition_code.code k = cc in
      let r : a ≡ b = block_inj a b q in
      let t : c ≡ k = condition_code.inj c k s in cc
  command_inj (Simple l a) (Each m b e) p = cc
  command_inj (Simple l a) (When m k b e) p = cc
  command_inj (Each l a d) (Simple m b) p = cc
  command_inj (Each l a d) (When m k b e) p = cc
  command_inj (When l c a d) (Simple m b) p = cc
  command_inj (When l c a d) (Each m b e) p = cc

  block_inj : (x y : Block) → code_of_block x ≡ code_of_block y → x ≡ y
  block_inj NoMore NoMore p = refl
  block_inj NoMore (Then c cs) p = cc
  block_inj (Then c cs) NoMore p = cc
  block_inj (Then c cs) (Then d ds) p =
      let q : code_of_command c ≡ code_of_command d = cc in
      let s : code_of_block cs ≡ code_of_block ds = cc in
      let r : c ≡ d = command_inj c d q in
      let t : cs ≡ ds = block_inj cs ds s in cc

pub block_code : Coded Block
block_code = record { code = code_of_block; inj = block_inj }

pub command_code : Coded Command
command_code = record { code = code_of_command; inj = command_inj }

item_code : Coded Item
item_code = hlevel (codes, command_code, block_code)

pub script_code : Coded Script
script_code = hlevel (codes, item_code)

pub state_code : Coded State
state_code = hlevel (codes, command_code, item_code)
