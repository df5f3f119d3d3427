-- Blocks of enums, a declaration and a scope at a time.
use Rattle.std.proofs.Common.{◌≡◌, ◌∙◌, sym, ap, ℕ, ◌+◌, ◌<◌, ◌≤◌, List, [], ◌∷◌, ◌++◌, length, drop, get_or, append_assoc, append-nil}
use Rattle.std.proofs.lemmas.List.{map-append}
use Rattle.oxt_declares.specs.Declarations.{declared_view, declared_views}
use Rattle.oxt_declares.specs.declared.declaration.Declaration.{Declaration}
use Rattle.oxt_enums.specs.Blocks.{Block, block_view, block_views, blocks_among, blocks_in, own_block}
use Rattle.oxt_enums.specs.declared.blocks.EnumBlock.{EnumBlock}
use Rattle.oxt_scopes.specs.Views.{opened_views}
use Rattle.oxt_scopes.specs.declared.scopes.OpenedScope.{OpenedScope}
use Rattle.oxt_scopes.specs.declared.standing.Standing.{Standing}
use Rattle.oxt_names.proofs.Lists.{drop_at, drop_end}

pub one_more : (old new : List EnumBlock) (b : EnumBlock) → new ≡ old ++ b ∷ [] → block_views new ≡ block_views old ++ block_view b ∷ []
one_more old new b is = ap block_views is ∙ map-append block_view old (b ∷ [])

pub declared_end : (before : List Block) (n : ℕ) (s : Standing) (ds : List Declaration) (i : ℕ) → length ds ≤ i → before ++ blocks_among n s (declared_views (drop i ds)) ≡ before
declared_end before n s ds i h = ap (λ xs. before ++ blocks_among n s (declared_views xs)) (drop_end ds i h) ∙ append-nil before

pub declared_next : (before after : List Block) (n : ℕ) (s : Standing) (ds : List Declaration) (i : ℕ) (d : Declaration) → i < length ds → d ≡ get_or ds i d → after ≡ before ++ own_block n s (declared_view d)
    → before ++ blocks_among n s (declared_views (drop i ds)) ≡ after ++ blocks_among n s (declared_views (drop (i + 1) ds))
declared_next before after n s ds i d h e pushed =
    ap (λ xs. before ++ blocks_among n s (declared_views xs)) (drop_at ds i d h e)
    ∙ sym (append_assoc before (own_block n s (declared_view d)) (blocks_among n s (declared_views (drop (i + 1) ds))))
    ∙ ap (λ bs. bs ++ blocks_among n s (declared_views (drop (i + 1) ds))) (sym pushed)

pub ruleset declared_steps = (declared_next, declared_end)

pub scopes_end : (before : List Block) (ss : List OpenedScope) (i : ℕ) → length ss ≤ i → before ++ blocks_in (opened_views (drop i ss)) ≡ before
scopes_end before ss i h = ap (λ xs. before ++ blocks_in (opened_views xs)) (drop_end ss i h) ∙ append-nil before

pub scopes_next : (before after : List Block) (ss : List OpenedScope) (i : ℕ) (s : OpenedScope) → i < length ss → s ≡ get_or ss i s → after ≡ before ++ blocks_among s.number.0 s.standing (declared_views s.declarations.items)
    → before ++ blocks_in (opened_views (drop i ss)) ≡ after ++ blocks_in (opened_views (drop (i + 1) ss))
scopes_next before after ss i s h e pushed =
    ap (λ xs. before ++ blocks_in (opened_views xs)) (drop_at ss i s h e)
    ∙ sym (append_assoc before (blocks_among s.number.0 s.standing (declared_views s.declarations.items)) (blocks_in (opened_views (drop (i + 1) ss))))
    ∙ ap (λ bs. bs ++ blocks_in (opened_views (drop (i + 1) ss))) (sym pushed)

pub ruleset scope_steps = (scopes_next, scopes_end)
