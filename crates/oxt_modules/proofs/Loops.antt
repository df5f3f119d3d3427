-- Lists of numbers that grow by what is kept of one node after another.
use Rattle.std.proofs.Common.{◌≡◌, ◌∙◌, sym, ap, ℕ, ◌+◌, ◌<◌, ◌≤◌, List, [], ◌∷◌, ◌++◌, Bool, length, get_or, drop, append_assoc, append-nil}
use Rattle.oxt_modules.specs.Aliases.{left_out_name, left_out_names}
use Rattle.oxt_modules.specs.Kept.{Uses, is_alias_kept, kept_aliases, kept_if, kept_in_list, kept_in_statement, kept_in_statements, kept_specifier}
use Rattle.oxt_modules.specs.declared.alias.Alias.{Alias}
use Rattle.oxt_modules.specs.declared.kept.Place.{Place}
use Rattle.oxt_options.specs.Options.{TypeScriptData}
use Rattle.oxt_scoping.specs.Scoped.{Scoped}
use Rattle.oxt_names.proofs.Lists.{drop_at, drop_end}
use Rattle.oxt_tree.specs.View.{docs_in, part_doc}
use Rattle.oxt_tree.specs.declared.tree.Part.{Part}

-- no statements more
pub statement_end : (before : List ℕ) (s : Scoped) (o : TypeScriptData) (u : Uses) (ps : List Part) (i : ℕ) → length ps ≤ i → before ++ kept_in_statements s o u (docs_in (drop i ps)) ≡ before
statement_end before s o u ps i h = ap (λ qs. before ++ kept_in_statements s o u (docs_in qs)) (drop_end ps i h) ∙ append-nil before

-- one statement more
pub statement_next : (before after : List ℕ) (s : Scoped) (o : TypeScriptData) (u : Uses) (ps : List Part) (i : ℕ) (p : Part) → i < length ps → p ≡ get_or ps i p → after ≡ before ++ kept_in_statement s o u (part_doc p) → before ++ kept_in_statements s o u (docs_in (drop i ps)) ≡ after ++ kept_in_statements s o u (docs_in (drop (i + 1) ps))
statement_next before after s o u ps i p h e pushed =
    ap (λ qs. before ++ kept_in_statements s o u (docs_in qs)) (drop_at ps i p h e)
    ∙ sym (append_assoc before (kept_in_statement s o u (part_doc p)) (kept_in_statements s o u (docs_in (drop (i + 1) ps))))
    ∙ ap (λ ns. ns ++ kept_in_statements s o u (docs_in (drop (i + 1) ps))) (sym pushed)

pub ruleset statement_steps = (statement_next, statement_end)

-- no specifiers more
pub specifier_end : (before : List ℕ) (s : Scoped) (o : TypeScriptData) (u : Uses) (q : Place) (ps : List Part) (i : ℕ) → length ps ≤ i → before ++ kept_in_list s o u q (docs_in (drop i ps)) ≡ before
specifier_end before s o u q ps i h = ap (λ qs. before ++ kept_in_list s o u q (docs_in qs)) (drop_end ps i h) ∙ append-nil before

-- one specifier more
pub specifier_next : (before after : List ℕ) (s : Scoped) (o : TypeScriptData) (u : Uses) (q : Place) (ps : List Part) (i : ℕ) (p : Part) → i < length ps → p ≡ get_or ps i p → after ≡ before ++ kept_specifier s o u q (part_doc p) → before ++ kept_in_list s o u q (docs_in (drop i ps)) ≡ after ++ kept_in_list s o u q (docs_in (drop (i + 1) ps))
specifier_next before after s o u q ps i p h e pushed =
    ap (λ qs. before ++ kept_in_list s o u q (docs_in qs)) (drop_at ps i p h e)
    ∙ sym (append_assoc before (kept_specifier s o u q (part_doc p)) (kept_in_list s o u q (docs_in (drop (i + 1) ps))))
    ∙ ap (λ ns. ns ++ kept_in_list s o u q (docs_in (drop (i + 1) ps))) (sym pushed)

pub ruleset specifier_steps = (specifier_next, specifier_end)

-- no declarations more
pub alias_end : (before : List ℕ) (s : Scoped) (o : TypeScriptData) (xs : List Alias) (i : ℕ) → length xs ≤ i → before ++ kept_aliases s o (drop i xs) ≡ before
alias_end before s o xs i h = ap (λ bs. before ++ kept_aliases s o bs) (drop_end xs i h) ∙ append-nil before

-- one declaration more
pub alias_next : (before after : List ℕ) (s : Scoped) (o : TypeScriptData) (xs : List Alias) (i : ℕ) (a : Alias) → i < length xs → a ≡ get_or xs i a → after ≡ before ++ kept_if (is_alias_kept s o a) a.node.0 → before ++ kept_aliases s o (drop i xs) ≡ after ++ kept_aliases s o (drop (i + 1) xs)
alias_next before after s o xs i a h e pushed =
    ap (λ bs. before ++ kept_aliases s o bs) (drop_at xs i a h e)
    ∙ sym (append_assoc before (kept_if (is_alias_kept s o a) a.node.0) (kept_aliases s o (drop (i + 1) xs)))
    ∙ ap (λ ns. ns ++ kept_aliases s o (drop (i + 1) xs)) (sym pushed)

pub ruleset alias_steps = (alias_next, alias_end)

-- no declarations more that are left out
pub left_end : (before : List ℕ) (ks : ℕ → Bool) (xs : List Alias) (i : ℕ) → length xs ≤ i → before ++ left_out_names ks (drop i xs) ≡ before
left_end before ks xs i h = ap (λ bs. before ++ left_out_names ks bs) (drop_end xs i h) ∙ append-nil before

-- one declaration more
pub left_next : (before after : List ℕ) (ks : ℕ → Bool) (xs : List Alias) (i : ℕ) (a : Alias) → i < length xs → a ≡ get_or xs i a → after ≡ before ++ left_out_name ks a → before ++ left_out_names ks (drop i xs) ≡ after ++ left_out_names ks (drop (i + 1) xs)
left_next before after ks xs i a h e pushed =
    ap (λ bs. before ++ left_out_names ks bs) (drop_at xs i a h e)
    ∙ sym (append_assoc before (left_out_name ks a) (left_out_names ks (drop (i + 1) xs)))
    ∙ ap (λ ns. ns ++ left_out_names ks (drop (i + 1) xs)) (sym pushed)

pub ruleset left_steps = (left_next, left_end)
