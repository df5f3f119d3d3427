-- The facts of a class, one by one.
use Rattle.std.proofs.Common.{◌≡◌, ◌∙◌, ap, Bool}
use Rattle.oxt_class_checks.specs.Class.{class_facts, facts_by, facts_of}
use Rattle.oxt_class_checks.specs.declared.class.ClassFacts.{ClassFacts}
use Rattle.oxt_fields.specs.Classes.{elements_of, is_derived}
use Rattle.oxt_fields.specs.Fates.{hoists_private}
use Rattle.oxt_fields.specs.Rules.{Rules}
use Rattle.oxt_grammar.specs.Places.{same_kind}
use Rattle.oxt_grammar.specs.declared.kind.Kind.TheVariants as kind
use Rattle.oxt_tree.specs.Doc.{Docs}
use Rattle.oxt_tree.specs.View.{docs_in, node_doc}
use Rattle.oxt_tree.specs.declared.tree.Node.{Node}

abbrev pub facts : Bool → Bool → Bool → Bool → Bool → Bool → ClassFacts
facts c d h m a s = record { is_declaration = c; is_derived = d; hoists = h; has_moving = m; has_decorated = a; has_assigned = s }

pub same_facts : (c d h m m' a a' s s' : Bool) → m ≡ m' → a ≡ a' → s ≡ s' → facts c d h m a s ≡ facts c d h m' a' s'
same_facts c d h m m' a a' s s' e f g =
    ap (λ x. facts c d h x a s) e ∙ (ap (λ x. facts c d h m' x s) f ∙ ap (λ x. facts c d h m' a' x) g)

pub facts_of_class : (r : Rules) (n : Node) (f : ClassFacts) (c d h : Bool) (es : Docs) → f ≡ facts_of r c d h es → c ≡ same_kind n.kind kind.ClassDeclaration → d ≡ is_derived (node_doc n) → h ≡ hoists_private es → es ≡ elements_of (node_doc n)
    → f ≡ class_facts r n.kind (docs_in n.parts.items)
facts_of_class r n f c d h es is declared derived hoists elements =
    let declaration : Bool = same_kind n.kind kind.ClassDeclaration in
    is ∙ (ap (λ x. facts_of r c d x es) hoists ∙ (ap (λ x. facts_by r x d es) declared ∙ (ap (λ x. facts_by r declaration x es) derived ∙ ap (facts_by r declaration (is_derived (node_doc n))) elements)))
