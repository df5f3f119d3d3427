-- Which nodes do nothing, since only TypeScript has them.
use Rattle.std.specs.Prelude.{List, [], ◌++◌, Bool, true, false, ◌||◌, codes}
use Rattle.oxt_grammar.specs.declared.kind.Kind.{Kind}
use Rattle.oxt_grammar.specs.declared.kind.Kind.TheVariants as kind
use Rattle.oxt_tree.specs.Doc.{Doc, Docs}
use Rattle.oxt_tree.specs.Fields.{named, field_of, is_set, is_text, is_kind}
use Rattle.oxt_tree.specs.Syntax.{is_mere_declaration, lacks_body}
use Rattle.oxt_facts.specs.Entry.{Entry, lone}
use Rattle.oxt_facts.specs.declared.item.Binding.TheVariants as binding
use Rattle.oxt_facts.specs.declared.item.ItemKind.TheVariants as item
use Rattle.oxt_forms.specs.Details.{start}
use Rattle.oxt_items.specs.declared.rule.Rule.{Rule}
use Rattle.oxt_items.specs.declared.rule.Rule.TheVariants as rule
use Rattle.oxt_items.specs.declared.way.Way.{Way}
use Rattle.oxt_items.specs.declared.way.Way.TheVariants as way

-- erased by its kind, by `declare` or `type`, or for want of a body
abbrev pub is_gone : Rule → Kind → Docs → Bool
is_gone rule.Erased k ds = true
is_gone rule.EnumBlock k ds = is_set (named (codes "declare") k ds)
is_gone rule.Variables k ds = is_set (named (codes "declare") k ds)
is_gone rule.FunctionDeclaration k ds = is_set (named (codes "declare") k ds)
is_gone rule.ClassDeclaration k ds = is_set (named (codes "declare") k ds)
is_gone (rule.ClassField a) k ds = is_set (named (codes "declare") k ds)
is_gone rule.Method k ds = lacks_body k ds
is_gone rule.Import k ds = is_text (codes "type") (named (codes "importKind") k ds)
is_gone (rule.Binds binding.Import) k ds = is_text (codes "type") (named (codes "importKind") k ds)
is_gone rule.ExportList k ds = is_text (codes "type") (named (codes "exportKind") k ds)
is_gone rule.ExportPart k ds = is_text (codes "type") (named (codes "exportKind") k ds)
is_gone rule.ExportDefault k ds = is_mere_declaration (named (codes "declaration") k ds)
is_gone rule.ImportEquals k ds = is_text (codes "type") (named (codes "importKind") k ds)
is_gone r k ds = false

-- An erased statement is an empty block where it is the body of a loop or of an `if`, an absent part as its
-- alternate, and nothing elsewhere.
abbrev pub gone_word : Way → List Entry
gone_word way.Branch = start kind.BlockStatement [] ++ lone item.Close
gone_word way.Alternate = lone item.Nil
gone_word w = []
