-- The parts of a response that the code writes make the bytes of the response.
use Rattle.std.proofs.Common.{◌≡◌, ℕ, List, [], ◌++◌, Bool, refl, ◌∙◌, codes, length}
use Rattle.std.specs.Prelude.{decimal}
use Rattle.std.proofs.lemmas.List.{append_assoc}
use Rattle.kds_head.specs.Response.{line, reason_phrase, content_type, connection, response_text}

pub eight : (t a b c d e f g h t1 t2 t3 t4 t5 t6 t7 t8 : List ℕ)
    → t1 ≡ t ++ a → t2 ≡ t1 ++ b → t3 ≡ t2 ++ c → t4 ≡ t3 ++ d → t5 ≡ t4 ++ e → t6 ≡ t5 ++ f → t7 ≡ t6 ++ g
    → t8 ≡ t7 ++ h
    → t8 ≡ t ++ (a ++ (b ++ (c ++ (d ++ (e ++ (f ++ (g ++ h)))))))
eight t a b c d e f g h t1 t2 t3 t4 t5 t6 t7 t8 e1 e2 e3 e4 e5 e6 e7 e8 =
    rw (e8, e7, e6, e5, e4, e3, e2, e1) (simp append_assoc)

pub in_front : (a b c d e f g body t1 t2 t3 t4 t5 t6 t7 : List ℕ)
    → t1 ≡ g ++ body → t2 ≡ f ++ t1 → t3 ≡ e ++ t2 → t4 ≡ d ++ t3 → t5 ≡ c ++ t4 → t6 ≡ b ++ t5 → t7 ≡ a ++ t6
    → t7 ≡ a ++ (b ++ (c ++ (d ++ (e ++ (f ++ (g ++ body))))))
in_front a b c d e f g body t1 t2 t3 t4 t5 t6 t7 e1 e2 e3 e4 e5 e6 e7 = rw (e7, e6, e5, e4, e3, e2, e1) refl

apart : (f m a d e l n b : List ℕ) → f ++ (m ++ (a ++ (d ++ (e ++ (l ++ (n ++ b))))))
    ≡ ((((f ++ m) ++ ((a ++ d) ++ e)) ++ l) ++ n) ++ b
apart f m a d e l n b = simp append_assoc

pub parts : (status : ℕ) (body : List ℕ) (json close : Bool) (first media label digits ending last empty : List ℕ)
    → first ≡ line (codes "HTTP/1.1 " ++ decimal status ++ codes " " ++ reason_phrase status)
    → media ≡ content_type json
    → label ≡ codes "Content-Length: " → digits ≡ decimal (length body) → ending ≡ line [] → last ≡ connection close
    → empty ≡ line []
    → first ++ (media ++ (label ++ (digits ++ (ending ++ (last ++ (empty ++ body))))))
    ≡ response_text status body json close
unfolding response_text
parts status body json close first media label digits ending last empty f m a d e l n =
    apart first media label digits ending last empty body ∙ rw (f, m, a, d, e, l, n) refl
