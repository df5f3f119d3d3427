-- One step after another.
use Rattle.std.proofs.Common.{◌≡◌, ◌<◌, ◌∙◌, ℕ, zero, suc, List, [], ◌∷◌, length, get_or, Bool, true, ap, arith, refl}
use Rattle.std.proofs.Math.ListN.{set}
use Rattle.std.specs.Prelude.{Result, Ok, Err, OnOk}
use Rattle.oxt_ctx.specs.Context.{Context}
use Rattle.oxt_stores.specs.Frame.{frames}
use Rattle.oxt_injector.specs.Pending.{pending}
pub use Rattle.oxt_traverse.proofs.Logs.{on_ok, untouched_on, untouched_under}
use Rattle.oxt_ctx.specs.Level.{IsLevel, IsUntouched}
use Rattle.oxt_tree.specs.Doc.{Doc, Docs, doc}
use Rattle.oxt_tree.specs.View.{docs_in, part_doc}
use Rattle.oxt_tree.specs.declared.tree.Part.{Part}
use Rattle.oxt_walk.specs.Watched.{IsWatched}

pub level_on : (a b c : Context) → IsLevel a b → IsLevel b c → IsLevel a c
level_on a b c first second = record {
  records = second.records ∙ first.records;
  open_lists = second.open_lists ∙ first.open_lists;
}

-- a fact that follows from several where a call succeeds
pub on_ok_2 : {T E : Type 0} {P Q R : Type 0} (r : Result T E) → (P → Q → R) → OnOk r P → OnOk r Q → OnOk r R
on_ok_2 (Ok x) f p q = f p q
on_ok_2 (Err e) f p q = p

pub on_ok_3 : {T E : Type 0} {P Q R S : Type 0} (r : Result T E) → (P → Q → R → S) → OnOk r P → OnOk r Q → OnOk r R → OnOk r S
on_ok_3 (Ok x) f p q s = f p q s
on_ok_3 (Err e) f p q s = p

-- ---- a walk that is watched is so all along

-- beside statements waits what waited
pub watched_as : (w : Bool) (a b : Context) → b.injector ≡ a.injector → IsWatched w a → IsWatched w b
watched_as w a b same watched = record {
  watching = watched.watching;
  idle = λ n. ap (λ i. pending i n) same ∙ watched.idle n;
}

-- what went before has left all as it was
pub watched_on : (w : Bool) (d e : Doc) (a b : Context) → IsUntouched (IsWatched w a) d e a b → IsWatched w a → IsWatched w b
watched_on w d e a b untouched watched = record {
  watching = watched.watching;
  idle = λ n. untouched.waiting watched n ∙ watched.idle n;
}

-- a hook, and what records a node, have left all as it was
pub watched_inside : (w : Bool) (d e : Doc) (a b c : Context) → IsUntouched (w ≡ true) d e a b → c.injector ≡ b.injector → IsWatched w a → IsWatched w c
watched_inside w d e a b c hooked same watched =
    watched_as w b c same (watched_on w d e a b (untouched_under d e a b (λ s. s.watching) hooked) watched)

-- ---- what is left as it was

-- a step that changes nothing of what is put aside
recorded : (Premise : Type 0) (d : Doc) (a b : Context) → b.injector ≡ a.injector → b.declarations ≡ a.declarations → IsUntouched Premise d d a b
recorded Premise d a b injector declarations = record {
  document = λ s. refl;
  waiting = λ s n. ap (λ i. pending i n) injector;
  declarators = λ s. ap frames declarations;
}

-- the hooks of a list, and what is walked between them
pub list_untouched : (w : Bool) (d e f h : Doc) (a b c l : Context) → IsUntouched (w ≡ true) d e a b → IsUntouched (IsWatched w b) e f b c → IsUntouched (w ≡ true) f h c l → IsUntouched (IsWatched w a) d h a l
list_untouched w d e f h a b c l entered walked left =
    let P : Type 0 = IsWatched w a in
    let first : IsUntouched P d e a b = untouched_under d e a b (λ s. s.watching) entered in
    let second : IsUntouched P e f b c = untouched_under e f b c (watched_on w d e a b first) walked in
    let third : IsUntouched P f h c l = untouched_under f h c l (λ s. s.watching) left in
    untouched_on P d e h a b l first (untouched_on P e f h b c l second third)

-- the same of a node, which is recorded between them
pub node_untouched : (w : Bool) (d e f h : Doc) (a b c l m n : Context) → IsUntouched (w ≡ true) d e a b → c.injector ≡ b.injector → c.declarations ≡ b.declarations → IsUntouched (IsWatched w c) e f c l → m.injector ≡ l.injector → m.declarations ≡ l.declarations → IsUntouched (w ≡ true) f h m n → IsUntouched (IsWatched w a) d h a n
node_untouched w d e f h a b c l m n entered injector declarations walked injector_out declarations_out left =
    let inside : IsUntouched (w ≡ true) d e a c = untouched_on (w ≡ true) d e e a b c entered (recorded (w ≡ true) e b c injector declarations) in
    let outside : IsUntouched (w ≡ true) f h l n = untouched_on (w ≡ true) f f h l m n (recorded (w ≡ true) f l m injector_out declarations_out) left in
    list_untouched w d e f h a c l n inside walked outside

parts_set : (ps : List Part) (i : ℕ) (p q : Part) → i < length ps → p ≡ get_or ps i p → part_doc q ≡ part_doc p → docs_in (set ps i q) ≡ docs_in ps
parts_set [] i p q lt here same = absurd (omega arith)
parts_set (r ∷ ps) zero p q lt here same = ap (λ d. doc d (docs_in ps)) (same ∙ ap part_doc here)
parts_set (r ∷ ps) (suc i) p q lt here same = ap (doc (part_doc r)) (parts_set ps i p q (omega arith) here same)

-- what has parts, of which one is walked
pub part_untouched : {Premise : Type 0} (of : Docs → Doc) (ps : List Part) (i : ℕ) (p q : Part) (a b : Context) → i < length ps → p ≡ get_or ps i p → IsUntouched Premise (part_doc p) (part_doc q) a b → IsUntouched Premise (of (docs_in ps)) (of (docs_in (set ps i q))) a b
part_untouched of ps i p q a b lt here walked = record {
  document = λ s. ap of (parts_set ps i p q lt here (walked.document s));
  waiting = walked.waiting;
  declarators = walked.declarators;
}
