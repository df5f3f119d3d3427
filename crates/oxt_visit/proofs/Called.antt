-- Logs, one call after another.
use Rattle.std.proofs.Common.{◌≡◌, refl, sym, ◌∙◌, List, [], ◌∷◌, ◌++◌, ap, append_assoc, append-nil}
use Rattle.std.specs.Prelude.{Result, Ok, Err, OnOk}
use Rattle.oxt_visit.specs.Calls.{Call, HasCalled, traces}

-- a fact that follows where a call succeeds
pub on_ok : {T E : Type 0} {P Q : Type 0} (r : Result T E) → (P → Q) → OnOk r P → OnOk r Q
on_ok (Ok x) f p = f p
on_ok (Err e) f p = p

-- what a log gets of the ones and then of the others
pub traces_both : (trace : Call → List Call) (cs ct : List Call) → traces trace (cs ++ ct) ≡ traces trace cs ++ traces trace ct
traces_both trace [] ct = refl
traces_both trace (c ∷ cs) ct =
    ap (λ ts. trace c ++ ts) (traces_both trace cs ct) ∙ sym (append_assoc (trace c) (traces trace cs) (traces trace ct))

-- the ones and then the others
pub both_grown : (trace : Call → List Call) (a b c cs ct : List Call) → b ≡ a ++ traces trace cs → c ≡ b ++ traces trace ct → c ≡ a ++ traces trace (cs ++ ct)
both_grown trace a b c cs ct first second =
    second
    ∙ (ap (λ l. l ++ traces trace ct) first
    ∙ (append_assoc a (traces trace cs) (traces trace ct)
    ∙ ap (λ ts. a ++ ts) (sym (traces_both trace cs ct))))

-- one call
pub one_grown : (trace : Call → List Call) (a b : List Call) (c : Call) → b ≡ a ++ trace c → b ≡ a ++ traces trace (c ∷ [])
one_grown trace a b c grown = grown ∙ ap (λ ts. a ++ ts) (sym (append-nil (trace c)))

-- no call is owed
pub called_none : (trace : Call → List Call) (a : List Call) (Owed : List Call → Type 0) → Owed [] → HasCalled trace a a Owed
called_none trace a Owed owed = record { calls = []; owed = owed; grown = sym (append-nil a) }

-- the same calls are owed for something else
pub called_for : (trace : Call → List Call) (a b : List Call) (Owed More : List Call → Type 0) → ((cs : List Call) → Owed cs → More cs) → HasCalled trace a b Owed → HasCalled trace a b More
called_for trace a b Owed More so called =
    record { calls = called.calls; owed = so called.calls called.owed; grown = called.grown }

-- a call stands in front
pub called_after : (trace : Call → List Call) (a b c : List Call) (first : Call) (Owed More : List Call → Type 0) → ((cs : List Call) → Owed cs → More (first ∷ cs)) → b ≡ a ++ trace first → HasCalled trace b c Owed → HasCalled trace a c More
called_after trace a b c first Owed More so grown called = record {
  calls = first ∷ called.calls;
  owed = so called.calls called.owed;
  grown = both_grown trace a b c (first ∷ []) called.calls (one_grown trace a b first grown) called.grown;
}

-- a call stands in front and one behind
pub called_between : (trace : Call → List Call) (a b c d : List Call) (first last : Call) (Owed More : List Call → Type 0) → ((cs : List Call) → Owed cs → More (first ∷ (cs ++ last ∷ []))) → b ≡ a ++ trace first → HasCalled trace b c Owed → d ≡ c ++ trace last → HasCalled trace a d More
called_between trace a b c d first last Owed More so grown called ended = record {
  calls = first ∷ (called.calls ++ last ∷ []);
  owed = so called.calls called.owed;
  grown = both_grown trace a b d (first ∷ []) (called.calls ++ last ∷ []) (one_grown trace a b first grown) (both_grown trace b c d called.calls (last ∷ []) called.grown (one_grown trace c d last ended));
}
