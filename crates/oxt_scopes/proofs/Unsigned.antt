-- A node whose kind has none of the fields that erase is not erased by itself.
use Rattle.std.proofs.Common.{◌≡◌, ◌∙◌, refl, sym, ap, List, [], ◌∷◌, map, Bool, true, false, not, ◌&&◌, ◌||◌, cond, true≢false}
use Rattle.std.specs.List.{list_any}
use Rattle.std.specs.Prelude.{codes}
use Rattle.oxt_declares.specs.RoleOf.{role_of}
use Rattle.oxt_declares.specs.declared.role.Role.{Role}
use Rattle.oxt_declares.specs.declared.role.Role.TheVariants as role
use Rattle.oxt_grammar.specs.Field.{row_view}
use Rattle.oxt_grammar.specs.Keys.{key_of}
use Rattle.oxt_grammar.specs.Places.{same_field, same_kind}
use Rattle.oxt_grammar.specs.Rows.{row_of}
use Rattle.oxt_grammar.specs.declared.field.Field.{Field}
use Rattle.oxt_grammar.specs.declared.field.Field.TheVariants as field
use Rattle.oxt_grammar.specs.declared.holds.Row.{Row}
use Rattle.oxt_grammar.specs.declared.kind.Kind.{Kind}
use Rattle.oxt_grammar.specs.declared.kind.Kind.TheVariants as kind
use Rattle.oxt_scopes.specs.Signs.{StaysEmitted, is_asked, is_sign}
use Rattle.oxt_scopes.specs.Standings.{is_erased_by}
use Rattle.oxt_scopes.specs.declared.standing.Emission.{Emission}
use Rattle.oxt_scopes.specs.declared.standing.Emission.TheVariants as emission
use Rattle.oxt_tree.specs.Doc.{Doc, nil, Docs, no_docs, doc}
use Rattle.oxt_tree.specs.Fields.{at_name, is_kind, is_set, is_text, named}
use Rattle.oxt_tree.specs.Syntax.{is_erased_kind}

neither : (a b : Bool) → (a || b) ≡ false → (a ≡ false) × (b ≡ false)
neither true b h = absurd (true≢false h)
neither false b h = (refl, h)

-- where no row is of the field, the node has nothing there
no_field : (f : Field) (rs : List Row) (ds : Docs) → list_any (λ r. same_field r.field f) rs ≡ false → at_name (key_of f) (map row_view rs) ds ≡ nil
no_field f [] ds h = refl
no_field f (r ∷ rs) no_docs h = refl
no_field f (r ∷ rs) (doc d ds) h =
    let two = neither (same_field r.field f) (list_any (λ r. same_field r.field f) rs) h in
    ap (λ b. cond b d (at_name (key_of f) (map row_view rs) ds)) two.0 ∙ no_field f rs ds two.1

-- none of the rows is of the field
abbrev HasNot : List Row → Field → Type 0
HasNot rs f = list_any (λ r. same_field r.field f) rs ≡ false

has_not_more : (r : Row) (rs : List Row) (f : Field) → same_field r.field f ≡ false → HasNot rs f → HasNot (r ∷ rs) f
has_not_more r rs f one others = ap (λ b. b || list_any (λ r. same_field r.field f) rs) one ∙ others

-- where no row has a sign, none is of each of the four fields
each_off : (rs : List Row) → list_any (λ r. is_sign r.field) rs ≡ false → HasNot rs field.Declare × (HasNot rs field.ImportKind × (HasNot rs field.ExportKind × HasNot rs field.Value))
each_off [] h = (refl, (refl, (refl, refl)))
each_off (r ∷ rs) h =
    let two = neither (is_sign r.field) (list_any (λ r. is_sign r.field) rs) h in
    let one = neither (same_field r.field field.Declare) (same_field r.field field.ImportKind || (same_field r.field field.ExportKind || same_field r.field field.Value)) two.0 in
    let next = neither (same_field r.field field.ImportKind) (same_field r.field field.ExportKind || same_field r.field field.Value) one.1 in
    let last = neither (same_field r.field field.ExportKind) (same_field r.field field.Value) next.1 in
    let others = each_off rs two.1 in (
      has_not_more r rs field.Declare one.0 others.0,
      (
        has_not_more r rs field.ImportKind next.0 others.1.0,
        (
          has_not_more r rs field.ExportKind last.0 others.1.1.0,
          has_not_more r rs field.Value last.1 others.1.1.1,
        ),
      ),
    )

unasked : (r : Role) (k : Kind) (ds : Docs) → is_asked r ≡ false → is_erased_by r k ds ≡ false
unasked role.Namespace k ds h = absurd (true≢false h)
unasked role.Program k ds h = absurd (true≢false h)
unasked r k ds h = refl

-- what becomes of a node, by what these fields of it hold
abbrev by_fields : Bool → Kind → Docs → Doc → Doc → Doc → Doc → Emission
by_fields legacy k ds d i e v =
    cond (legacy && (same_kind k kind.PropertyDefinition && is_set d)) emission.Declared
    (cond (not (same_kind k kind.FunctionExpression) && (not (same_kind k kind.ClassExpression) && is_set d)) emission.Ambient
    (cond (is_erased_kind k || ((is_text (codes "type") i || is_text (codes "type") e) || (is_kind kind.TSEmptyBodyFunctionExpression v || is_erased_by (role_of k) k ds))) emission.Erased emission.Emitted))

off : (a b : Bool) → (a && (b && false)) ≡ false
off true true = refl
off true false = refl
off false b = refl

emitted : (a b c d x y : Bool) → x ≡ false → y ≡ false
    → cond (a && (b && false)) emission.Declared (cond (c && (d && false)) emission.Ambient (cond (x || ((false || false) || (false || y))) emission.Erased emission.Emitted)) ≡ emission.Emitted
emitted a b c d x y h g =
    ap (λ o. cond o emission.Declared (cond (c && (d && false)) emission.Ambient (cond (x || ((false || false) || (false || y))) emission.Erased emission.Emitted))) (off a b)
    ∙ ap (λ o. cond o emission.Ambient (cond (x || ((false || false) || (false || y))) emission.Erased emission.Emitted)) (off c d)
    ∙ ap (λ o. cond (o || ((false || false) || (false || y))) emission.Erased emission.Emitted) h
    ∙ ap (λ o. cond o emission.Erased emission.Emitted) g

-- of the kind with these rows, which is not erased whatever it holds and whose role is not asked
pub stays : (k : Kind) (rs : List Row) → map row_view rs ≡ row_of k → is_erased_kind k ≡ false → is_asked (role_of k) ≡ false → list_any (λ r. is_sign r.field) rs ≡ false → StaysEmitted k
stays k rs rows kind_off role_off sign_off legacy ds =
    let has_not = each_off rs sign_off in
    let empty : (f : Field) → HasNot rs f → at_name (key_of f) (row_of k) ds ≡ nil = λ f h. sym (ap (λ fs. at_name (key_of f) fs ds) rows) ∙ no_field f rs ds h in
    ap (λ d. by_fields legacy k ds d (named (codes "importKind") k ds) (named (codes "exportKind") k ds) (named (codes "value") k ds)) (empty field.Declare has_not.0)
    ∙ ap (λ i. by_fields legacy k ds nil i (named (codes "exportKind") k ds) (named (codes "value") k ds)) (empty field.ImportKind has_not.1.0)
    ∙ ap (λ e. by_fields legacy k ds nil nil e (named (codes "value") k ds)) (empty field.ExportKind has_not.1.1.0)
    ∙ ap (λ v. by_fields legacy k ds nil nil nil v) (empty field.Value has_not.1.1.1)
    ∙ emitted legacy (same_kind k kind.PropertyDefinition) (not (same_kind k kind.FunctionExpression)) (not (same_kind k kind.ClassExpression)) (is_erased_kind k) (is_erased_by (role_of k) k ds) kind_off (unasked (role_of k) k ds role_off)
