-- The conditions on nodes say nothing of numbers.
use Rattle.std.proofs.Common.{◌≡◌, ◌∙◌, refl, sym, ap, ℕ, ◌+◌, suc, List, [], ◌∷◌, Bool, true, false, codes, map}
use Rattle.std.specs.Prelude.{if◌then◌else◌, cond, count_by, fold}
use Rattle.std.specs.List.{list_any}
use Rattle.std.specs.Str.{bytes_eq}
use Rattle.oxt_json.proofs.Numbering.{numbering_each}
use Rattle.oxt_json.specs.Numbered.{each_numbered, unnumbered, each_unnumbered}
use Rattle.oxt_grammar.specs.Context.{condition_of}
use Rattle.oxt_grammar.specs.Field.{Field}
use Rattle.oxt_grammar.specs.Places.{kind_in}
use Rattle.oxt_grammar.specs.Rows.{row_of}
use Rattle.oxt_grammar.specs.declared.category.Category.{Category}
use Rattle.oxt_grammar.specs.declared.category.Category.TheVariants as category
use Rattle.oxt_grammar.specs.declared.context.Condition.{Condition}
use Rattle.oxt_grammar.specs.declared.context.Condition.TheVariants as condition
use Rattle.oxt_grammar.specs.declared.context.Setting.{Setting}
use Rattle.oxt_grammar.specs.declared.kind.Kind.{Kind}
use Rattle.oxt_valid.specs.Condition.{key_fails, chain_fails, template_fails, begins_with_text, is_plain_template, member_fails, is_constructor, is_static_constructor, is_constructor_with_body, constructors_fail, literal_fails, fault_of, fault}
use Rattle.oxt_tree.specs.Fields.{first, count}
use Rattle.oxt_tree.specs.Inner.{seen}
use Rattle.oxt_tree.specs.Doc.{Doc, nil, flag, number, text, list, node, Docs, no_docs, doc}
use Rattle.oxt_tree.specs.Fields.{at_name, named, field_of, elements, docs_list, is_nil, is_set, is_text, is_kind, is_in}

same_nil : (d : Doc) → is_nil (unnumbered d) ≡ is_nil d
same_nil nil = refl
same_nil (flag b) = refl
same_nil (number n) = refl
same_nil (text t) = refl
same_nil (list ds) = refl
same_nil (node k i b e ds) = refl

same_set : (d : Doc) → is_set (unnumbered d) ≡ is_set d
same_set nil = refl
same_set (flag b) = refl
same_set (number n) = refl
same_set (text t) = refl
same_set (list ds) = refl
same_set (node k i b e ds) = refl

same_text : (t : List ℕ) (d : Doc) → is_text t (unnumbered d) ≡ is_text t d
same_text t nil = refl
same_text t (flag b) = refl
same_text t (number n) = refl
same_text t (text u) = refl
same_text t (list ds) = refl
same_text t (node k i b e ds) = refl

same_kind : (j : Kind) (d : Doc) → is_kind j (unnumbered d) ≡ is_kind j d
same_kind j nil = refl
same_kind j (flag b) = refl
same_kind j (number n) = refl
same_kind j (text t) = refl
same_kind j (list ds) = refl
same_kind j (node k i b e ds) = refl

same_in : (c : Category) (d : Doc) → is_in c (unnumbered d) ≡ is_in c d
same_in c nil = refl
same_in c (flag b) = refl
same_in c (number n) = refl
same_in c (text t) = refl
same_in c (list ds) = refl
same_in c (node k i b e ds) = refl

same_elements : (d : Doc) → elements (unnumbered d) ≡ each_unnumbered (elements d)
same_elements nil = refl
same_elements (flag b) = refl
same_elements (number n) = refl
same_elements (text t) = refl
same_elements (list ds) = refl
same_elements (node k i b e ds) = refl

same_first : (ds : Docs) → first (each_unnumbered ds) ≡ unnumbered (first ds)
same_first no_docs = refl
same_first (doc d ds) = refl

same_choice : (is_here : Bool) (d rest : Doc) (other : Doc) → other ≡ unnumbered rest → (if is_here then unnumbered d else other) ≡ unnumbered (if is_here then d else rest)
same_choice true d rest other e = refl
same_choice false d rest other e = e

same_at : (name : List ℕ) (rs : List Field) (ds : Docs) → at_name name rs (each_unnumbered ds) ≡ unnumbered (at_name name rs ds)
same_at name [] ds = refl
same_at name (r ∷ rs) no_docs = refl
same_at name (r ∷ rs) (doc d ds) = same_choice (bytes_eq r.name name) d _ _ (same_at name rs ds)

same_named : (name : List ℕ) (k : Kind) (ds : Docs) → named name k (each_unnumbered ds) ≡ unnumbered (named name k ds)
same_named name k ds = same_at name (row_of k) ds

same_field : (name : List ℕ) (d : Doc) → field_of name (unnumbered d) ≡ unnumbered (field_of name d)
same_field name nil = refl
same_field name (flag b) = refl
same_field name (number n) = refl
same_field name (text t) = refl
same_field name (list ds) = refl
same_field name (node k i b e ds) = same_named name k ds

seen_choice : (is_wrapper : Bool) (inner other outer same : Doc) → other ≡ unnumbered inner → same ≡ unnumbered outer → (if is_wrapper then other else same) ≡ unnumbered (if is_wrapper then inner else outer)
seen_choice true inner other outer same e f = e
seen_choice false inner other outer same e f = f

same_seen : (d : Doc) → seen (unnumbered d) ≡ unnumbered (seen d)
same_seen nil = refl
same_seen (flag b) = refl
same_seen (number n) = refl
same_seen (text t) = refl
same_seen (list ds) = refl
same_seen (node k i b e no_docs) = refl
same_seen (node k i b e (doc d ds)) = seen_choice (kind_in category.Transparent k) (seen d) _ (node k i b e (doc d ds)) _ (same_seen d) refl

same_list : (ds : Docs) → docs_list (each_unnumbered ds) ≡ map unnumbered (docs_list ds)
same_list no_docs = refl
same_list (doc d ds) = ap (λ ds. unnumbered d ∷ ds) (same_list ds)

same_count : (ds : Docs) → count (each_unnumbered ds) ≡ count ds
same_count no_docs = refl
same_count (doc d ds) = ap suc (same_count ds)

same_any : (p : Doc → Bool) → ((d : Doc) → p (unnumbered d) ≡ p d) → (ds : List Doc) → list_any p (map unnumbered ds) ≡ list_any p ds
same_any p same [] = refl
same_any p same (d ∷ ds) = rw (same d, same_any p same ds) refl

same_fold : (f : Doc → ℕ) → ((d : Doc) → f (unnumbered d) ≡ f d) → (ds : List Doc) (n : ℕ) → fold (λ m d. m + f d) n (map unnumbered ds) ≡ fold (λ m d. m + f d) n ds
same_fold f same [] n = refl
same_fold f same (d ∷ ds) n = ap (λ m. fold (λ l e. l + f e) (n + m) (map unnumbered ds)) (same d) ∙ same_fold f same ds (n + f d)

same_count_by : (p : Doc → Bool) → ((d : Doc) → p (unnumbered d) ≡ p d) → (ds : List Doc) → count_by p (map unnumbered ds) ≡ count_by p ds
same_count_by p same ds = same_fold (λ d. cond (p d) 1 0) (λ d. ap (λ b. cond b 1 0) (same d)) ds 0

same_key : (b : Bool) (key computed : Doc) → key_fails b (unnumbered key) (unnumbered computed) ≡ key_fails b key computed
same_key b key computed = simp (same_kind, same_set)

same_chain : (d : Doc) → chain_fails (unnumbered d) ≡ chain_fails d
same_chain d = simp (same_kind, same_in, same_seen)

same_template : (c d : Doc) → template_fails (unnumbered c) (unnumbered d) ≡ template_fails c d
same_template c d = simp (same_elements, same_count)

same_text_first : (ds : Docs) → begins_with_text (each_unnumbered ds) ≡ begins_with_text ds
same_text_first ds = simp (same_first, same_field, same_nil)

same_plain_template : (d : Doc) → is_plain_template (unnumbered d) ≡ is_plain_template d
same_plain_template d = simp (same_field, same_elements, same_count, same_first, same_nil)

same_member : (id computed : Doc) → member_fails (unnumbered id) (unnumbered computed) ≡ member_fails id computed
same_member id computed = simp (same_kind, same_set, same_plain_template)

same_constructor : (d : Doc) → is_constructor (unnumbered d) ≡ is_constructor d
same_constructor d = simp (same_field, same_text, same_kind)

same_static : (d : Doc) → is_static_constructor (unnumbered d) ≡ is_static_constructor d
same_static d = simp (same_field, same_text, same_kind, same_set)

same_with_body : (d : Doc) → is_constructor_with_body (unnumbered d) ≡ is_constructor_with_body d
same_with_body d = simp (same_field, same_text, same_kind)

same_constructors : (ds : Docs) → constructors_fail (docs_list (each_unnumbered ds)) ≡ constructors_fail (docs_list ds)
same_constructors ds = rw (same_list ds, same_any is_static_constructor same_static (docs_list ds), same_count_by is_constructor_with_body same_with_body (docs_list ds)) refl

same_literal : (d : Doc) → literal_fails (unnumbered d) ≡ literal_fails d
same_literal d = simp (same_field, same_kind)

same_fault_of : (c : Condition) (s : Setting) (k : Kind) (ds : Docs) → fault_of c s k (each_unnumbered ds) ≡ fault_of c s k ds
same_fault_of condition.Nothing s k ds = refl
same_fault_of condition.ElementKey s k ds = rw (same_named (codes "key") k ds, same_named (codes "computed") k ds, same_key) refl
same_fault_of condition.PlainKey s k ds = rw (same_named (codes "key") k ds, same_named (codes "computed") k ds, same_key) refl
same_fault_of condition.TargetKey s k ds = rw (same_named (codes "name") k ds, same_named (codes "computed") k ds, same_key) refl
same_fault_of condition.Number s k ds = simp (same_at, same_nil)
same_fault_of condition.Chain s k ds = rw (same_at, same_chain) refl
same_fault_of condition.Template s k ds = simp (same_at, same_elements, same_count)
same_fault_of condition.EnumMember s k ds = simp (same_at, same_member)
same_fault_of condition.Constructors s k ds = rw (same_at, same_elements, same_constructors) refl
same_fault_of condition.NamedDeclaration s k ds = simp (same_at, same_nil)
same_fault_of condition.LiteralType s k ds = rw (same_at, same_literal) refl

-- a condition fails alike whatever the numbers
pub fault_numbered : (s : Setting) (k : Kind) (ds : Docs) (n : ℕ) → fault s k (each_numbered ds n).0 ≡ fault s k ds
fault_numbered s k ds n = sym (same_fault_of (condition_of k) s k (each_numbered ds n).0) ∙ (ap (λ es. fault s k es) (numbering_each ds n) ∙ same_fault_of (condition_of k) s k ds)
