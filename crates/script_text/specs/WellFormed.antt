-- Scripts that are well formed: the version has the commands, names and operands have the grammar's forms and ranges, blocks and handlers
-- are within their limits, handlers have different names, line numbers increase, and the printed lines and text are within their limits.
-- That `tick` and handlers occur only outside handlers and blocks is part of the type of items.
use Rattle.std.specs.Prelude.{◌≡◌, ℕ, ◌<◌, ◌≤◌, ℤ, unsigned_abs, max, suc, Bool, true, false, not, ◌&&◌, List, [], ◌∷◌, length, Option, Some, None, is_some, bytes_eq}
use Rattle.std.specs.List.{list_all, list_any}
use Rattle.word_model.specs.Names.{is_name}
use Rattle.word_model.specs.Numbers.{begins_with}
use Rattle.px_units.specs.Lengths.{LengthValue, Automatic, Pixels, Percentage, InsetValue, AutomaticInset, InsetPixels, InsetPercentage}
use Rattle.layout_model.specs.Styles.{Declaration, SetDisplay, SetWidth, SetHeight, SetMinWidth, SetMinHeight, SetMaxWidth, SetMaxHeight, SetMargin, SetPadding, SetBorder, SetBoxSizing, SetOverflow, SetPosition, SetTop, SetRight, SetBottom, SetLeft}
use Rattle.px_units.specs.declared.BoxKind.{BoxKind}
use Rattle.px_units.specs.declared.BoxKind.TheVariants.{Content, Border, Device}
use Rattle.text_io.specs.declared.kinds.Version.{Version}
use Rattle.text_io.specs.declared.kinds.Version.TheVariants.{First, Second}
use Rattle.text_io.specs.declared.kinds.LimitKind.TheVariants as limits
use Rattle.text_io.specs.Limits.{common_limit}
use Rattle.script_model.specs.Readers.{is_empty}
use Rattle.script_model.specs.Queries.{Feature, WidthFeature, HeightFeature, OrientationFeature, MediaQuery, Typed, NotFeature, AllFeatures, AnyFeatures}
use Rattle.script_model.specs.Lines.{is_word_byte}
use Rattle.script_model.specs.MarginText.{parts_of}
use Rattle.script_model.specs.Syntax.{Operand, Named, Target, Aim, PlainAim, WindowAim, Command, Simple, Each, When, Block, NoMore, Then, Action, Item, Outside, Tick, Handler, Script}
use Rattle.script_model.specs.Scripts.{NamedBlock, handlers_in}
use Rattle.script_model.specs.Forms.{Form, NameForm, NodeForm, AimForm, HandlerForm, RootForm, LengthForm, SignedForm, PercentForm, WholeForm, EventForm, BoxForm, DimensionForm, DeclarationForm, JustForm, MarginForm, NumbersForm, QueryForm, Meant, ends_margin}
use Rattle.script_model.specs.Commands.{heads_in}
use Rattle.script_text.specs.Entries.{entry_at}
use Rattle.script_text.specs.Parts.{Part, PartOf}
use Rattle.script_text.specs.Phrases.{action_head, action_parts, test_parts}
use Rattle.script_text.specs.NumberedLines.{NumberedLine, items_lines}
use Rattle.script_text.specs.ScriptText.{line_text, script_text}

abbrev pub IsName : List ℕ → Type 0
IsName name = is_name name ≡ true

abbrev pub IsOperand : Operand → Type 0
IsOperand (Named name) = IsName name
IsOperand Target = Unit {0}

abbrev pub IsAim : Aim → Type 0
IsAim (PlainAim operand) = IsOperand operand
IsAim (WindowAim document) = IsName document

abbrev pub IfSome : {A : Type 0} → (A → Type 0) → Option A → Type 0
IfSome Is None = Unit {0}
IfSome Is (Some value) = Is value

-- units, at most 1,000,000 pixels
abbrev pub IsLength : ℕ → Type 0
IsLength units = units ≤ 64000000

-- hundredths, at most 10,000 percent
abbrev pub IsPercentage : ℕ → Type 0
IsPercentage hundredths = hundredths ≤ 1000000

-- ten-thousandths with at most 9 digits before the point
abbrev pub IsNumber : ℤ → Type 0
IsNumber number = unsigned_abs number ≤ 9999999999999

abbrev pub AreNumbers : List ℤ → Type 0
AreNumbers [] = Unit {0}
AreNumbers (n ∷ ns) = IsNumber n × AreNumbers ns

abbrev pub IsSize : LengthValue → Type 0
IsSize Automatic = ⊥
IsSize (Pixels units) = IsLength units
IsSize (Percentage hundredths) = IsPercentage hundredths

abbrev pub IsAutoOrSize : LengthValue → Type 0
IsAutoOrSize Automatic = Unit {0}
IsAutoOrSize (Pixels units) = IsLength units
IsAutoOrSize (Percentage hundredths) = IsPercentage hundredths

abbrev pub IsInset : InsetValue → Type 0
IsInset AutomaticInset = Unit {0}
IsInset (InsetPixels units) = IsLength (unsigned_abs units)
IsInset (InsetPercentage hundredths) = IsPercentage (unsigned_abs hundredths)

-- scripts of version 1 have no positioning properties
abbrev pub IsOfSecond : Version → Type 0
IsOfSecond First = ⊥
IsOfSecond Second = Unit {0}

-- the value is one that the property allows, and the version has the property
abbrev pub IsDeclaration : Version → Declaration → Type 0
IsDeclaration version (SetDisplay hidden) = Unit {0}
IsDeclaration version (SetWidth value) = IsAutoOrSize value
IsDeclaration version (SetHeight value) = IsAutoOrSize value
IsDeclaration version (SetMinWidth value) = IsSize value
IsDeclaration version (SetMinHeight value) = IsSize value
IsDeclaration version (SetMaxWidth value) = IfSome IsSize value
IsDeclaration version (SetMaxHeight value) = IfSome IsSize value
IsDeclaration version (SetMargin side value) = IsSize value
IsDeclaration version (SetPadding side value) = IsSize value
IsDeclaration version (SetBorder side units) = IsLength units
IsDeclaration version (SetBoxSizing value) = Unit {0}
IsDeclaration version (SetOverflow value) = Unit {0}
IsDeclaration version (SetPosition value) = IsOfSecond version
IsDeclaration version (SetTop value) = IsOfSecond version × IsInset value
IsDeclaration version (SetRight value) = IsOfSecond version × IsInset value
IsDeclaration version (SetBottom value) = IsOfSecond version × IsInset value
IsDeclaration version (SetLeft value) = IsOfSecond version × IsInset value

-- a word of a margin: any word, except those that begin a comment or end a margin
unfoldable pub is_margin_word : Version → List ℕ → Bool
unfolding is_empty begins_with
is_margin_word version word =
    not (is_empty word) && list_all is_word_byte word && not (begins_with 35 word) && not (ends_margin version word)

-- such words, separated by single spaces
abbrev pub IsMargin : Version → List ℕ → Type 0
IsMargin version margin = list_all (is_margin_word version) (parts_of margin) ≡ true

-- scripts of version 1 have no scroll margins
abbrev pub IsScrollMargin : Version → Option (List ℕ) → Type 0
IsScrollMargin version None = Unit {0}
IsScrollMargin First (Some margin) = ⊥
IsScrollMargin Second (Some margin) = IsMargin Second margin

-- scripts of version 1 can't observe device pixels
abbrev pub IsBox : Version → BoxKind → Type 0
IsBox version Content = Unit {0}
IsBox version Border = Unit {0}
IsBox First Device = ⊥
IsBox Second Device = Unit {0}

abbrev pub IsFeature : Feature → Type 0
IsFeature (WidthFeature compared units) = IsLength units
IsFeature (HeightFeature compared units) = IsLength units
IsFeature (OrientationFeature portrait) = Unit {0}

abbrev pub AreFeatures : List Feature → Type 0
AreFeatures [] = Unit {0}
AreFeatures (f ∷ fs) = IsFeature f × AreFeatures fs

abbrev pub IsQuery : MediaQuery → Type 0
IsQuery (Typed before medium features) = AreFeatures features
IsQuery (NotFeature feature) = IsFeature feature
IsQuery (AllFeatures first others) = IsFeature first × AreFeatures others
IsQuery (AnyFeatures first second others) = IsFeature first × IsFeature second × AreFeatures others

abbrev pub AreQueries : List MediaQuery → Type 0
AreQueries [] = Unit {0}
AreQueries (q ∷ qs) = IsQuery q × AreQueries qs

-- a list has at least one query
abbrev pub IsQueryList : List MediaQuery → Type 0
IsQueryList [] = ⊥
IsQueryList (q ∷ qs) = AreQueries (q ∷ qs)

-- what a part of this form may stand for
abbrev pub IsMeant : (form : Form) → Meant form → Type 0
IsMeant NameForm name = IsName name
IsMeant NodeForm operand = IsOperand operand
IsMeant AimForm aim = IsAim aim
IsMeant HandlerForm handler = IfSome IsName handler
IsMeant RootForm root = IfSome IsOperand root
IsMeant LengthForm units = IsLength units
IsMeant SignedForm units = IsLength (unsigned_abs units)
IsMeant PercentForm hundredths = IsPercentage hundredths
IsMeant WholeForm number = number ≤ 1000000000000
IsMeant EventForm event = Unit {0}
IsMeant (BoxForm version) box = IsBox version box
IsMeant DimensionForm dimension = Unit {0}
IsMeant (DeclarationForm version) declaration = IsDeclaration version declaration
IsMeant (JustForm word) unit = Unit {0}
IsMeant (MarginForm version) margins = IsMargin version margins.0 × IsScrollMargin version margins.1
IsMeant NumbersForm numbers = AreNumbers numbers
IsMeant QueryForm queries = IsQueryList queries

abbrev pub AreMeant : List Part → Type 0
AreMeant [] = Unit {0}
AreMeant (PartOf form value ∷ parts) = IsMeant form value × AreMeant parts

-- a command that is allowed in a script of this version: the version has its word, and its operands have the forms and ranges of that
-- version
pub record IsAction (version : Version) (action : Action) : Type 0 where
  pub known : is_some (entry_at (heads_in version) (action_head version action)) ≡ true
  pub operands : AreMeant (action_parts version action)

-- commands, including those in blocks
unfoldable mutual
  pub IsCommand : Version → Command → Type 0
  IsCommand version (Simple line action) = IsAction version action
  IsCommand version (Each line block last) = IsBlock version block
  IsCommand version (When line condition block last) = AreMeant (test_parts (condition.asks)) × IsBlock version block

  pub IsBlock : Version → Block → Type 0
  IsBlock version NoMore = Unit {0}
  IsBlock version (Then command others) = IsCommand version command × IsBlock version others

unfoldable pub IsItem : Version → Item → Type 0
unfolding IsCommand IsBlock
IsItem version (Outside command) = IsCommand version command
IsItem version (Tick line time) = time ≤ 1000000000000
IsItem version (Handler line name block last) = IsName name × IsBlock version block

unfoldable pub AreItems : Version → List Item → Type 0
unfolding IsItem
AreItems version [] = Unit {0}
AreItems version (item ∷ items) = IsItem version item × AreItems version items

-- how deeply blocks are nested
unfoldable mutual
  pub command_depth : Command → ℕ
  command_depth (Simple line action) = 0
  command_depth (Each line block last) = suc (block_depth block)
  command_depth (When line condition block last) = suc (block_depth block)

  pub block_depth : Block → ℕ
  block_depth NoMore = 0
  block_depth (Then command others) = max (command_depth command) (block_depth others)

-- a handler itself doesn't count as a block
unfoldable pub item_depth : Item → ℕ
unfolding command_depth block_depth
item_depth (Outside command) = command_depth command
item_depth (Tick line time) = 0
item_depth (Handler line name block last) = block_depth block

unfoldable pub items_depth : List Item → ℕ
unfolding item_depth
items_depth [] = 0
items_depth (item ∷ items) = max (item_depth item) (items_depth items)

-- no handler has one of these names, or the name of a handler before it
unfoldable pub AreNew : List (List ℕ) → List NamedBlock → Type 0
AreNew names [] = Unit {0}
AreNew names (h ∷ hs) = (list_any (bytes_eq h.name) names ≡ false) × AreNew (h.name ∷ names) hs

-- each line number is greater than this one and than those of the lines before it
unfoldable pub Rise : ℕ → List NumberedLine → Type 0
Rise number [] = Unit {0}
Rise number (l ∷ ls) = (number < l.number) × Rise l.number ls

unfoldable pub AreShort : List NumberedLine → Type 0
unfolding line_text
AreShort [] = Unit {0}
AreShort (l ∷ ls) = (length (line_text l.words) ≤ common_limit limits.Line) × AreShort ls

pub record IsWellFormed (script : Script) : Type 0 where
  pub operands : AreItems script.version script.items
  pub nested : items_depth script.items ≤ common_limit limits.Nesting
  pub few_handlers : length (handlers_in script.items) ≤ common_limit limits.Handlers
  pub names_differ : AreNew [] (handlers_in script.items)
  pub numbers_rise : Rise 1 (items_lines script.items)
  pub short_lines : AreShort (items_lines script.items)
  pub short_text : length (script_text script) ≤ common_limit limits.Script
