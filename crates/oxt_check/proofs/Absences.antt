-- What a form that does not occur gives to the searches for what is wrong with it: nothing.
use Rattle.std.proofs.Common.{◌≡◌, ◌∙◌, refl, sym, ap, ℕ, List, [], ◌∷◌, Bool, true, false, not, ◌&&◌, ◌||◌, ◌==◌, cond, Option, None, Some, option_map, true≢false}
use Rattle.std.specs.List.{list_any}
use Rattle.std.specs.Option.{option_or}
use Rattle.std.specs.Prelude.{codes, is_none}
use Rattle.std.specs.Str.{bytes_eq}
use Rattle.oxt_check.specs.Misplacements.{MisusesNone, class_misplacement, of_element}
use Rattle.oxt_check.specs.Occurring.{has_block, has_class, has_jsx, makes_names, names_elements, occurring, occurs}
use Rattle.oxt_check.proofs.Formless.{AreForms, GivesAtAlone, GivesNothingIn, GoesIntoIn, GoesOnIn, goes_into, goes_on, idle_in, neither, none_in}
use Rattle.oxt_class_checks.specs.Class.{class_facts, is_class}
use Rattle.oxt_class_checks.specs.Misplaced as elements
use Rattle.oxt_class_checks.specs.Misplaced.{around_inside, fault_in}
use Rattle.oxt_class_checks.specs.Refused.{refused_accessors}
use Rattle.oxt_class_checks.specs.declared.class.ClassFacts.{ClassFacts}
use Rattle.oxt_declares.specs.Dropped.{inside_dropped_by, is_dropped_by, keeps_decorators}
use Rattle.oxt_enum_checks.specs.Blocks.{block_with, blocks, blocks_of, is_block_kind}
use Rattle.oxt_enum_checks.specs.Clash.{first_clash, least_clash}
use Rattle.oxt_enum_checks.specs.First.{first_blocks, numbers_of}
use Rattle.oxt_enum_checks.specs.LateBase.{late_base, least_late}
use Rattle.oxt_enum_checks.specs.Misused as misuse
use Rattle.oxt_enum_checks.specs.Misused.{HasNoWrittenMember, is_misused_as, is_misused_use, misused, misused_at, names_element}
use Rattle.oxt_enum_checks.specs.Places.{Placed, places_of}
use Rattle.oxt_enum_checks.specs.Sought.{sought_blocks}
use Rattle.oxt_enum_checks.specs.declared.sought.Sought.{Sought}
use Rattle.oxt_enum_checks.specs.declared.sought.Sought.TheVariants as sought
use Rattle.oxt_faults.specs.Around.{elements_in, no_class}
use Rattle.oxt_faults.specs.Earliest.{earliest}
use Rattle.oxt_faults.specs.Free as frees
use Rattle.oxt_faults.specs.Free.{at_number, free, has_call, made_word, is_static_accessor, nothing_taken, word_of_call}
use Rattle.oxt_faults.specs.Initializers as initializers
use Rattle.oxt_faults.specs.Initializers.{initializer_word, is_constant, least, own_word}
use Rattle.oxt_faults.specs.Level.{level_word}
use Rattle.oxt_faults.specs.Moved as moved
use Rattle.oxt_faults.specs.Moved.{capture_by, captured_at, class_capture, field_capture, moved_capture}
use Rattle.oxt_faults.specs.Redeclared.{is_again, own_names}
use Rattle.oxt_faults.specs.declared.around.ClassAround.{ClassAround}
use Rattle.oxt_faults.specs.Namespaces as namespaces
use Rattle.oxt_faults.specs.Namespaces.{namespace_word}
use Rattle.oxt_faults.specs.declared.free.FreeWord.{FreeWord}
use Rattle.oxt_faults.specs.declared.free.FreeWord.TheVariants as word
use Rattle.oxt_faults.specs.declared.free.Taken.{Taken}
use Rattle.oxt_fields.specs.Fates.{fate_by, field_fate, is_stored, stored_fate}
use Rattle.oxt_fields.specs.Rules.{Rules}
use Rattle.oxt_fields.specs.declared.fate.Fate.TheVariants as fates
use Rattle.oxt_grammar.specs.Places.{same_kind}
use Rattle.oxt_grammar.specs.declared.kind.Kind.{Kind}
use Rattle.oxt_grammar.specs.declared.kind.Kind.TheVariants as kind
use Rattle.oxt_modules.specs.Aliases.{alias_named, alias_search, left_out, left_out_names}
use Rattle.oxt_modules.specs.Jsx as jsx
use Rattle.oxt_modules.specs.Jsx.{jsx_use, use_of}
use Rattle.oxt_modules.specs.declared.jsx.JsxNode.TheVariants as jsx_node
use Rattle.oxt_declares.specs.Imports.{is_required}
use Rattle.oxt_names.specs.declared.ids.ReferenceId.{ReferenceId}
use Rattle.oxt_scoping.specs.Meant.{by_value, reference_in}
use Rattle.oxt_scoping.specs.Scoped.{Scoped, at_node, live_at, still}
use Rattle.oxt_scoping.specs.declared.entry.Reference.{Reference}
use Rattle.std.specs.Int.RustNames.{bit_and}
use Rattle.oxt_search.proofs.Nothing.{either_none}
use Rattle.oxt_names.specs.declared.ids.SymbolId.{SymbolId}
use Rattle.oxt_options.specs.Facts.{is_in}
use Rattle.oxt_search.specs.First.{first}
use Rattle.oxt_tree.specs.declared.inside.Inside.{Inside}
use Rattle.oxt_tree.specs.declared.inside.Inside.TheVariants as inside
use Rattle.oxt_grammar.specs.declared.field.Field.TheVariants as field
use Rattle.oxt_tree.specs.Doc.{Doc, Docs}
use Rattle.oxt_tree.specs.Fields.{is_kind, is_set, named}
use Rattle.oxt_tree.specs.Syntax.{is_type_only}

-- ---- of truth values

at_first : (a b : Bool) → a ≡ true → (a || b) ≡ true
at_first a b h = ap (λ c. c || b) h

behind : (a b : Bool) → b ≡ true → (a || b) ≡ true
behind true b h = refl
behind false b h = h

never : (a b : Bool) → b ≡ false → (a && b) ≡ false
never true b h = h
never false b h = refl

-- ---- kinds

-- the kinds of which a search is made for one form
abbrev pub one : Kind → Kind → Bool
one j k = same_kind k j

pub member_is_form : AreForms (one kind.TSEnumMember)
member_is_form k h = at_first _ _ h

block_is_form : AreForms (one kind.TSModuleBlock)
block_is_form k h = behind _ _ (at_first _ _ h)

import_is_form : AreForms (one kind.TSImportEqualsDeclaration)
import_is_form k h = behind _ _ (behind _ _ (at_first _ _ h))

-- ---- words in initializers and namespaces

pub no_initializer : (legacy : Bool) (s : Scoped) (d : Doc) → occurs d kind.TSEnumMember ≡ false → None ≡ initializer_word legacy s d
no_initializer legacy s d h =
    sym (ap least (none_in (one kind.TSEnumMember) (initializers.sought legacy s) member_is_form gives d tt h))
  where
    gives : GivesAtAlone (one kind.TSEnumMember) (initializers.sought legacy s)
    gives u k i ds off = either_none (is_dropped_by k ds) (own_word legacy s k i ds) (ap (λ b. cond (b && not (is_constant s i)) (level_word legacy (named (codes "initializer") k ds)) None) off)

pub no_namespace : (legacy : Bool) (d : Doc) → occurs d kind.TSModuleBlock ≡ false → None ≡ namespace_word legacy d
no_namespace legacy d h =
    sym (ap first (none_in (one kind.TSModuleBlock) (namespaces.sought legacy) block_is_form gives d tt h))
  where
    gives : GivesAtAlone (one kind.TSModuleBlock) (namespaces.sought legacy)
    gives u k i ds off =
        either_none (is_dropped_by k ds) (cond (same_kind k kind.TSModuleBlock) (level_word legacy (named (codes "body") k ds)) None)
        (ap (λ b. cond b (level_word legacy (named (codes "body") k ds)) None) off)

-- ---- imports

pub no_left_out : (ks : ℕ → Bool) (d : Doc) → occurs d kind.TSImportEqualsDeclaration ≡ false → [] ≡ left_out ks d
no_left_out ks d h =
    sym (ap (left_out_names ks) (none_in (one kind.TSImportEqualsDeclaration) alias_search import_is_form gives d false h))
  where
    gives : GivesAtAlone (one kind.TSImportEqualsDeclaration) alias_search
    gives x k i ds off = ap (λ b. cond (b && not (is_type_only k ds)) (alias_named x i (named (codes "id") k ds)) None) off

-- ---- free names

abbrev makes : Kind → Bool
makes k = same_kind k kind.TSExportAssignment || (same_kind k kind.TSImportEqualsDeclaration || same_kind k kind.AccessorProperty)

-- one of the last three of the first five
among_five : (a b c d e more : Bool) → (d || (c || e)) ≡ true → (a || (b || (c || (d || (e || more))))) ≡ true
among_five true b c d e more h = refl
among_five false true c d e more h = refl
among_five false false true d e more h = refl
among_five false false false true e more h = refl
among_five false false false false true more h = refl
among_five false false false false false more h = absurd (true≢false (sym h))

makes_is_form : AreForms makes
makes_is_form k h =
    among_five (same_kind k kind.TSEnumMember) (same_kind k kind.TSModuleBlock) (same_kind k kind.TSImportEqualsDeclaration) (same_kind k kind.TSExportAssignment) (same_kind k kind.AccessorProperty) _ h

none_makes : (ks : List Kind) → list_any (one kind.TSExportAssignment) ks ≡ false → list_any (one kind.TSImportEqualsDeclaration) ks ≡ false → list_any (one kind.AccessorProperty) ks ≡ false → list_any makes ks ≡ false
none_makes [] e f g = refl
none_makes (k ∷ ks) e f g =
    let first = neither (same_kind k kind.TSExportAssignment) (list_any (one kind.TSExportAssignment) ks) e in
    let next = neither (same_kind k kind.TSImportEqualsDeclaration) (list_any (one kind.TSImportEqualsDeclaration) ks) f in
    let last = neither (same_kind k kind.AccessorProperty) (list_any (one kind.AccessorProperty) ks) g in
    ap (λ b. (b || (same_kind k kind.TSImportEqualsDeclaration || same_kind k kind.AccessorProperty)) || list_any makes ks) first.0
    ∙ ap (λ b. (b || same_kind k kind.AccessorProperty) || list_any makes ks) next.0
    ∙ ap (λ b. b || list_any makes ks) last.0
    ∙ none_makes ks first.1 next.1 last.1

not_made : (ks : ℕ → Bool) (t : Taken) (k : Kind) (i : ℕ) (ds : Docs) → makes k ≡ false → made_word ks t k i ds ≡ None
not_made ks t k i ds h =
    let first = neither (same_kind k kind.TSExportAssignment) (same_kind k kind.TSImportEqualsDeclaration || same_kind k kind.AccessorProperty) h in
    let last = neither (same_kind k kind.TSImportEqualsDeclaration) (same_kind k kind.AccessorProperty) first.1 in
    ap (λ b. cond b (Some word.Module) required) (never t.«module» _ first.0)
    ∙ ap (λ b. cond b (Some word.Require) set) (never t.require _ (ap (λ b. ((b && not (is_type_only k ds)) && is_kind kind.TSExternalModuleReference (named (codes "moduleReference") k ds)) && ks i) last.0))
    ∙ ap (λ b. cond b (Some word.Value) None) (never t.is_value _ (ap (λ b. b && is_set (named (codes "static") k ds)) last.1))
  where
    set : Option FreeWord
    set = cond (t.is_value && is_static_accessor k ds) (Some word.Value) None

    required : Option FreeWord
    required = cond (t.require && (is_required k ds && ks i)) (Some word.Require) set

free_alone : (r : Rules) (s : Scoped) (ks : ℕ → Bool) → r.legacy ≡ false → GivesAtAlone makes (frees.sought r s ks)
free_alone r s ks off t k i ds other =
    ap (λ b. option_map (at_number i) (option_or (cond (has_call b t k ds) (word_of_call r t k ds) None) (cond (is_dropped_by k ds) None (made_word ks t k i ds)))) off
    ∙ ap (option_map (at_number i)) (either_none (is_dropped_by k ds) (made_word ks t k i ds) (not_made ks t k i ds other))

pub no_free : (r : Rules) (s : Scoped) (ks : ℕ → Bool) (d : Doc) → (r.legacy || makes_names d) ≡ false → None ≡ free r s ks d
no_free r s ks d h =
    let two = neither r.legacy (makes_names d) h in
    let three = neither (occurs d kind.TSExportAssignment) (occurs d kind.TSImportEqualsDeclaration || occurs d kind.AccessorProperty) two.1 in
    let four = neither (occurs d kind.TSImportEqualsDeclaration) (occurs d kind.AccessorProperty) three.1 in
    sym (ap first (none_in makes (frees.sought r s ks) makes_is_form (free_alone r s ks two.0) d nothing_taken (none_makes (occurring d) three.0 four.0 four.1)))

-- ---- classes

-- a class, or what may be a field of one
abbrev class_part : Kind → Bool
class_part k =
    (same_kind k kind.ClassDeclaration || same_kind k kind.ClassExpression)
    || (same_kind k kind.PropertyDefinition || same_kind k kind.AccessorProperty)

-- one of the four behind the first
among_four : (a p c e more : Bool) → ((c || e) || (p || a)) ≡ true → (a || (p || (c || (e || more)))) ≡ true
among_four true p c e more h = refl
among_four false true c e more h = refl
among_four false false true e more h = refl
among_four false false false true more h = refl
among_four false false false false more h = absurd (true≢false (sym h))

part_is_form : AreForms class_part
part_is_form k h =
    behind (same_kind k kind.TSEnumMember) _
    (behind (same_kind k kind.TSModuleBlock) _
    (behind (same_kind k kind.TSImportEqualsDeclaration) _
    (behind (same_kind k kind.TSExportAssignment) _
    (among_four (same_kind k kind.AccessorProperty) (same_kind k kind.PropertyDefinition) (same_kind k kind.ClassDeclaration) (same_kind k kind.ClassExpression) _ h))))

crossed : (a b c d : Bool) → ((a || b) || (c || d)) ≡ ((a || c) || (b || d))
crossed true b c d = refl
crossed false true true d = refl
crossed false true false d = refl
crossed false false true d = refl
crossed false false false d = refl

any_either : (p q : Kind → Bool) (ks : List Kind) → list_any (λ k. p k || q k) ks ≡ (list_any p ks || list_any q ks)
any_either p q [] = refl
any_either p q (k ∷ ks) = ap (λ b. (p k || q k) || b) (any_either p q ks) ∙ crossed (p k) (q k) (list_any p ks) (list_any q ks)

has_part : (d : Doc) → list_any class_part (occurring d) ≡ has_class d
has_part d =
    any_either (λ k. one kind.ClassDeclaration k || one kind.ClassExpression k) (λ k. one kind.PropertyDefinition k || one kind.AccessorProperty k) (occurring d)
    ∙ ap (λ b. b || list_any (λ k. one kind.PropertyDefinition k || one kind.AccessorProperty k) (occurring d)) (any_either (one kind.ClassDeclaration) (one kind.ClassExpression) (occurring d))
    ∙ ap (λ b. (occurs d kind.ClassDeclaration || occurs d kind.ClassExpression) || b) (any_either (one kind.PropertyDefinition) (one kind.AccessorProperty) (occurring d))

-- ---- elements of classes

nothing_outside : (r : Rules) (f : ℕ → Bool) (c : Option ClassFacts) (k : Kind) (i : ℕ) (ds : Docs) → is_none c ≡ true → fault_in r f c k i ds ≡ None
nothing_outside r f None k i ds on = refl
nothing_outside r f (Some c) k i ds on = absurd (true≢false (sym on))

-- a class is around no part of another node, where none is around that
none_either : (b : Bool) (c : Option ClassFacts) → is_none c ≡ true → is_none (cond b c None) ≡ true
none_either true c on = on
none_either false c on = refl

none_around : (r : Rules) (c : Option ClassFacts) (k : Kind) (ds : Docs) → is_class k ≡ false → is_none c ≡ true → is_none (around_inside r c k ds) ≡ true
none_around r c k ds off on =
    ap (λ b. is_none (cond b (Some (class_facts r k ds)) (cond (same_kind k kind.ClassBody) c None))) off ∙ none_either (same_kind k kind.ClassBody) c on

either_on : (b : Bool) (x y : Inside (Option ClassFacts)) → goes_on is_none x ≡ true → goes_on is_none y ≡ true → goes_on is_none (cond b x y) ≡ true
either_on true x y e h = e
either_on false x y e h = h

each_into : (b : Bool) (c : Option ClassFacts) → is_none c ≡ true → goes_into is_none (cond b (Some c) (Some None)) ≡ true
each_into true c on = on
each_into false c on = refl

pub no_element : (r : Rules) (d : Doc) → has_class d ≡ false → None ≡ class_misplacement r d
no_element r d h =
    sym (ap (λ fs. option_map of_element (first fs)) (idle_in class_part is_none (elements.sought r refused) part_is_form gives goes into d None refl (has_part d ∙ h)))
  where
    refused : ℕ → Bool
    refused = is_in (refused_accessors r d)

    gives : GivesNothingIn class_part is_none (elements.sought r refused)
    gives c k i ds off on = either_none (is_dropped_by k ds) (fault_in r refused c k i ds) (nothing_outside r refused c k i ds on)

    goes : GoesOnIn class_part is_none (elements.sought r refused)
    goes c k i ds off on =
        either_on (is_dropped_by k ds) (inside_dropped_by r.legacy k ds None) (inside.ByField (around_inside r c k ds))
        (either_on (keeps_decorators r.legacy k ds) (inside.Only field.Decorators None) inside.Skipped refl refl)
        (none_around r c k ds (neither (is_class k) _ off).0 on)

    into : GoesIntoIn class_part is_none (elements.sought r refused)
    into c k f off on = each_into (bytes_eq f.name (codes "body")) c on

-- ---- names in fields that move

stays : (r : Rules) (h : Bool) (k : Kind) (ds : Docs) → (same_kind k kind.PropertyDefinition || same_kind k kind.AccessorProperty) ≡ false → fate_by r h k ds ≡ fates.Stays
stays r h k ds off =
    let two = neither (same_kind k kind.PropertyDefinition) (same_kind k kind.AccessorProperty) off in
    ap (λ b. cond (b && not (is_set (named (codes "declare") k ds))) (field_fate r h k ds) (cond (is_stored r k) (stored_fate r h k ds) fates.Stays)) two.0
    ∙ ap (λ b. cond b (stored_fate r h k ds) fates.Stays) (never r.legacy (same_kind k kind.AccessorProperty) two.1)

pub no_moved : (s : Scoped) (r : Rules) (d : Doc) → has_class d ≡ false → None ≡ moved_capture s r d
no_moved s r d h =
    sym (ap earliest (none_in class_part (moved.sought s r again) part_is_form gives d no_class (has_part d ∙ h)))
  where
    again : Option SymbolId → Bool
    again = is_again s (is_in (own_names d))

    other : (a : ClassAround) (k : Kind) (ds : Docs) → class_part k ≡ false → captured_at s r again a k ds ≡ None
    other a k ds off =
        let two = neither (same_kind k kind.ClassDeclaration || same_kind k kind.ClassExpression) (same_kind k kind.PropertyDefinition || same_kind k kind.AccessorProperty) off in
        ap (λ b. cond b (class_capture s r again (elements_in k ds)) (field_capture s r a k ds)) two.0 ∙ ap (capture_by r s a k ds) (stays r a.hoists k ds two.1)

    gives : GivesAtAlone class_part (moved.sought s r again)
    gives a k i ds off = either_none (is_dropped_by k ds) (captured_at s r again a k ds) (other a k ds off)

-- ---- blocks

-- behind the eight forms before them
behind_eight : (k : Kind) (more : Bool) → more ≡ true
    → (same_kind k kind.TSEnumMember || (same_kind k kind.TSModuleBlock || (same_kind k kind.TSImportEqualsDeclaration || (same_kind k kind.TSExportAssignment || (same_kind k kind.AccessorProperty || (same_kind k kind.PropertyDefinition || (same_kind k kind.ClassDeclaration || (same_kind k kind.ClassExpression || more)))))))) ≡ true
behind_eight k more h =
    behind (same_kind k kind.TSEnumMember) _
    (behind (same_kind k kind.TSModuleBlock) _
    (behind (same_kind k kind.TSImportEqualsDeclaration) _
    (behind (same_kind k kind.TSExportAssignment) _
    (behind (same_kind k kind.AccessorProperty) _
    (behind (same_kind k kind.PropertyDefinition) _
    (behind (same_kind k kind.ClassDeclaration) _
    (behind (same_kind k kind.ClassExpression) more h)))))))

-- one of the first two
among_two : (a b more : Bool) → (a || b) ≡ true → (a || (b || more)) ≡ true
among_two true b more h = refl
among_two false true more h = refl
among_two false false more h = absurd (true≢false (sym h))

pub block_kind_is_form : AreForms is_block_kind
block_kind_is_form k h = behind_eight k _ (among_two (same_kind k kind.TSEnumDeclaration) (same_kind k kind.TSNamespaceDeclaration) _ h)

no_blocks : (d : Doc) → has_block d ≡ false → blocks_of d ≡ []
no_blocks d h =
    none_in is_block_kind blocks block_kind_is_form gives d tt
    (any_either (one kind.TSEnumDeclaration) (one kind.TSNamespaceDeclaration) (occurring d) ∙ h)
  where
    gives : GivesAtAlone is_block_kind blocks
    gives u k i ds off = ap (λ b. cond b (block_with i (named (codes "id") k ds)) None) off

no_sought : (p : Placed) (o : Sought) (s : Scoped) (d : Doc) → has_block d ≡ false → sought_blocks p o s (blocks_of d) ≡ []
no_sought p o s d h = ap (sought_blocks p o s) (no_blocks d h)

pub no_block_first : (s : Scoped) (d : Doc) → has_block d ≡ false → [] ≡ first_blocks s d
no_block_first s d h = sym (ap numbers_of (no_sought (places_of d) sought.Any s d h))

pub no_block_late : (s : Scoped) (d : Doc) → has_block d ≡ false → None ≡ late_base s d
no_block_late s d h = sym (ap (least_late s (places_of d)) (no_sought (places_of d) sought.Block s d h))

pub no_block_clashes : (s : Scoped) (d : Doc) → has_block d ≡ false → None ≡ first_clash s d
no_block_clashes s d h = sym (ap (least_clash s (places_of d)) (no_sought (places_of d) sought.Block s d h))

-- ---- JSX

abbrev jsx_kind : Kind → Bool
jsx_kind k = same_kind k kind.JSXElement || same_kind k kind.JSXFragment

jsx_kind_is_form : AreForms jsx_kind
jsx_kind_is_form k h =
    behind_eight k _
    (behind (same_kind k kind.TSEnumDeclaration) _
    (behind (same_kind k kind.TSNamespaceDeclaration) _
    (among_two (same_kind k kind.JSXElement) (same_kind k kind.JSXFragment) _ h)))

pub no_jsx : (legacy : Bool) (d : Doc) → has_jsx d ≡ false → use_of [] ≡ jsx_use legacy d
no_jsx legacy d h =
    sym (ap use_of (none_in jsx_kind (jsx.sought legacy) jsx_kind_is_form gives d tt (any_either (one kind.JSXElement) (one kind.JSXFragment) (occurring d) ∙ h)))
  where
    gives : GivesAtAlone jsx_kind (jsx.sought legacy)
    gives u k i ds off =
        let two = neither (same_kind k kind.JSXElement) (same_kind k kind.JSXFragment) off in
        ap (λ b. cond b (Some jsx_node.Element) (cond (same_kind k kind.JSXFragment) (Some jsx_node.Fragment) None)) two.0
        ∙ ap (λ b. cond b (Some jsx_node.Fragment) None) two.1

-- ---- bare names of members

-- one of the last three
among_last : (a b c : Bool) → (a || (b || c)) ≡ true → (a || (b || (c || false))) ≡ true
among_last true b c h = refl
among_last false true c h = refl
among_last false false true h = refl
among_last false false false h = h

names_element_is_form : AreForms names_element
names_element_is_form k h =
    behind_eight k _
    (behind (same_kind k kind.TSEnumDeclaration) _
    (behind (same_kind k kind.TSNamespaceDeclaration) _
    (behind (same_kind k kind.JSXElement) _
    (behind (same_kind k kind.JSXFragment) _
    (among_last (same_kind k kind.JSXOpeningElement) (same_kind k kind.JSXClosingElement) (same_kind k kind.JSXMemberExpression) h)))))

-- what a name is used as is what its reference says
not_written : (s : Scoped) → HasNoWrittenMember s → (o : Option ReferenceId) → is_misused_use s false (by_value (reference_in s.references o)) ≡ false
not_written s none None = refl
not_written s none (Some r) = by (live_at s.references r.0) (none r.0)
  where
    -- a use in a type counts as none
    of_use : (t : Bool) (q : Reference) → is_misused_as s false q ≡ false → is_misused_use s false (cond t None (Some q)) ≡ false
    of_use true q h = refl
    of_use false q h = h

    by : (o : Option Reference) → is_misused_use s false o ≡ false → is_misused_use s false (by_value o) ≡ false
    by None h = refl
    by (Some q) h = of_use (bit_and q.flags.0 4 == 4) q h

names_elements_are : (d : Doc) → list_any names_element (occurring d) ≡ names_elements d
names_elements_are d =
    any_either (one kind.JSXOpeningElement) (λ k. one kind.JSXClosingElement k || one kind.JSXMemberExpression k) (occurring d)
    ∙ ap (λ b. occurs d kind.JSXOpeningElement || b) (any_either (one kind.JSXClosingElement) (one kind.JSXMemberExpression) (occurring d))

pub no_misused : (legacy : Bool) (s : Scoped) (d : Doc) → MisusesNone s d → None ≡ misused legacy s d
no_misused legacy s d h =
    sym (ap first (idle_in names_element not (misuse.sought legacy s) names_element_is_form gives goes into d false refl (names_elements_are d ∙ h.1)))
  where
    -- a name that names no element is misused where it is written
    at_none : (b : Bool) (i : ℕ) → not b ≡ true → misused_at s b i ≡ None
    at_none true i on = absurd (true≢false (sym on))
    at_none false i on = ap (λ c. cond c (Some i) None) (not_written s h.0 (still s.references (at_node (record { 0 = i }) s.named)))

    gives : GivesNothingIn names_element not (misuse.sought legacy s)
    gives b k i ds off on = either_none (is_dropped_by k ds) (misused_at s b i) (at_none b i on)

    turn : (b : Bool) (x y : Inside Bool) → goes_on not x ≡ true → goes_on not y ≡ true → goes_on not (cond b x y) ≡ true
    turn true x y e h = e
    turn false x y e h = h

    goes : GoesOnIn names_element not (misuse.sought legacy s)
    goes b k i ds off on =
        turn (is_dropped_by k ds) (inside_dropped_by legacy k ds false) (inside.Alike (names_element k))
        (turn (keeps_decorators legacy k ds) (inside.Only field.Decorators false) inside.Skipped refl refl)
        (ap not off)

    into : GoesIntoIn names_element not (misuse.sought legacy s)
    into b k f off on = on
