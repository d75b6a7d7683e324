-- Texts printed one after another, as one text.
use Rattle.std.proofs.Common.{◌≡◌, List, ℕ, ◌++◌, refl, sym, subst}

-- one text and then another are one text
abbrev pub Then : {S : Type 0} → (S → S → List ℕ → Type 0) → Type 0
Then {S = S} P = (old between new : S) (first second : List ℕ) → P old between first → P between new second → P old new (first ++ second)

-- an equal text
pub same : {S : Type 0} (P : S → S → List ℕ → Type 0) {old new : S} {first text : List ℕ} → P old new first → text ≡ first → P old new text
same P {old = old} {new = new} one is = subst (P old new) (sym is) one

-- as many texts, in order
module _ {S : Type 0} (P : S → S → List ℕ → Type 0) (join : Then P) where
  pub two : {s0 s1 s2 : S} {t1 t2 text : List ℕ} → P s0 s1 t1 → P s1 s2 t2 → text ≡ t1 ++ t2 → P s0 s2 text
  two {s0 = s0} {s1 = s1} {s2 = s2} {t1 = t1} {t2 = t2} p1 p2 is = same P (join s0 s1 s2 t1 t2 p1 p2) is

  pub three : {s0 s1 s2 s3 : S} {t1 t2 t3 text : List ℕ} → P s0 s1 t1 → P s1 s2 t2 → P s2 s3 t3 → text ≡ t1 ++ (t2 ++ t3) → P s0 s3 text
  three {s0 = s0} {s1 = s1} {s3 = s3} {t1 = t1} {t2 = t2} {t3 = t3} p1 p2 p3 is = same P (join s0 s1 s3 t1 (t2 ++ t3) p1 (two p2 p3 refl)) is

  pub four : {s0 s1 s2 s3 s4 : S} {t1 t2 t3 t4 text : List ℕ} → P s0 s1 t1 → P s1 s2 t2 → P s2 s3 t3 → P s3 s4 t4 → text ≡ t1 ++ (t2 ++ (t3 ++ t4)) → P s0 s4 text
  four {s0 = s0} {s1 = s1} {s4 = s4} {t1 = t1} {t2 = t2} {t3 = t3} {t4 = t4} p1 p2 p3 p4 is = same P (join s0 s1 s4 t1 (t2 ++ (t3 ++ t4)) p1 (three p2 p3 p4 refl)) is

  pub five : {s0 s1 s2 s3 s4 s5 : S} {t1 t2 t3 t4 t5 text : List ℕ} → P s0 s1 t1 → P s1 s2 t2 → P s2 s3 t3 → P s3 s4 t4 → P s4 s5 t5 → text ≡ t1 ++ (t2 ++ (t3 ++ (t4 ++ t5))) → P s0 s5 text
  five {s0 = s0} {s1 = s1} {s5 = s5} {t1 = t1} {t2 = t2} {t3 = t3} {t4 = t4} {t5 = t5} p1 p2 p3 p4 p5 is = same P (join s0 s1 s5 t1 (t2 ++ (t3 ++ (t4 ++ t5))) p1 (four p2 p3 p4 p5 refl)) is

  pub six : {s0 s1 s2 s3 s4 s5 s6 : S} {t1 t2 t3 t4 t5 t6 text : List ℕ} → P s0 s1 t1 → P s1 s2 t2 → P s2 s3 t3 → P s3 s4 t4 → P s4 s5 t5 → P s5 s6 t6 → text ≡ t1 ++ (t2 ++ (t3 ++ (t4 ++ (t5 ++ t6)))) → P s0 s6 text
  six {s0 = s0} {s1 = s1} {s6 = s6} {t1 = t1} {t2 = t2} {t3 = t3} {t4 = t4} {t5 = t5} {t6 = t6} p1 p2 p3 p4 p5 p6 is = same P (join s0 s1 s6 t1 (t2 ++ (t3 ++ (t4 ++ (t5 ++ t6)))) p1 (five p2 p3 p4 p5 p6 refl)) is

  pub seven : {s0 s1 s2 s3 s4 s5 s6 s7 : S} {t1 t2 t3 t4 t5 t6 t7 text : List ℕ} → P s0 s1 t1 → P s1 s2 t2 → P s2 s3 t3 → P s3 s4 t4 → P s4 s5 t5 → P s5 s6 t6 → P s6 s7 t7 → text ≡ t1 ++ (t2 ++ (t3 ++ (t4 ++ (t5 ++ (t6 ++ t7))))) → P s0 s7 text
  seven {s0 = s0} {s1 = s1} {s7 = s7} {t1 = t1} {t2 = t2} {t3 = t3} {t4 = t4} {t5 = t5} {t6 = t6} {t7 = t7} p1 p2 p3 p4 p5 p6 p7 is = same P (join s0 s1 s7 t1 (t2 ++ (t3 ++ (t4 ++ (t5 ++ (t6 ++ t7))))) p1 (six p2 p3 p4 p5 p6 p7 refl)) is

  pub eight : {s0 s1 s2 s3 s4 s5 s6 s7 s8 : S} {t1 t2 t3 t4 t5 t6 t7 t8 text : List ℕ} → P s0 s1 t1 → P s1 s2 t2 → P s2 s3 t3 → P s3 s4 t4 → P s4 s5 t5 → P s5 s6 t6 → P s6 s7 t7 → P s7 s8 t8 → text ≡ t1 ++ (t2 ++ (t3 ++ (t4 ++ (t5 ++ (t6 ++ (t7 ++ t8)))))) → P s0 s8 text
  eight {s0 = s0} {s1 = s1} {s8 = s8} {t1 = t1} {t2 = t2} {t3 = t3} {t4 = t4} {t5 = t5} {t6 = t6} {t7 = t7} {t8 = t8} p1 p2 p3 p4 p5 p6 p7 p8 is = same P (join s0 s1 s8 t1 (t2 ++ (t3 ++ (t4 ++ (t5 ++ (t6 ++ (t7 ++ t8)))))) p1 (seven p2 p3 p4 p5 p6 p7 p8 refl)) is

  pub nine : {s0 s1 s2 s3 s4 s5 s6 s7 s8 s9 : S} {t1 t2 t3 t4 t5 t6 t7 t8 t9 text : List ℕ} → P s0 s1 t1 → P s1 s2 t2 → P s2 s3 t3 → P s3 s4 t4 → P s4 s5 t5 → P s5 s6 t6 → P s6 s7 t7 → P s7 s8 t8 → P s8 s9 t9 → text ≡ t1 ++ (t2 ++ (t3 ++ (t4 ++ (t5 ++ (t6 ++ (t7 ++ (t8 ++ t9))))))) → P s0 s9 text
  nine {s0 = s0} {s1 = s1} {s9 = s9} {t1 = t1} {t2 = t2} {t3 = t3} {t4 = t4} {t5 = t5} {t6 = t6} {t7 = t7} {t8 = t8} {t9 = t9} p1 p2 p3 p4 p5 p6 p7 p8 p9 is = same P (join s0 s1 s9 t1 (t2 ++ (t3 ++ (t4 ++ (t5 ++ (t6 ++ (t7 ++ (t8 ++ t9))))))) p1 (eight p2 p3 p4 p5 p6 p7 p8 p9 refl)) is

  pub ten : {s0 s1 s2 s3 s4 s5 s6 s7 s8 s9 s10 : S} {t1 t2 t3 t4 t5 t6 t7 t8 t9 t10 text : List ℕ} → P s0 s1 t1 → P s1 s2 t2 → P s2 s3 t3 → P s3 s4 t4 → P s4 s5 t5 → P s5 s6 t6 → P s6 s7 t7 → P s7 s8 t8 → P s8 s9 t9 → P s9 s10 t10 → text ≡ t1 ++ (t2 ++ (t3 ++ (t4 ++ (t5 ++ (t6 ++ (t7 ++ (t8 ++ (t9 ++ t10)))))))) → P s0 s10 text
  ten {s0 = s0} {s1 = s1} {s10 = s10} {t1 = t1} {t2 = t2} {t3 = t3} {t4 = t4} {t5 = t5} {t6 = t6} {t7 = t7} {t8 = t8} {t9 = t9} {t10 = t10} p1 p2 p3 p4 p5 p6 p7 p8 p9 p10 is = same P (join s0 s1 s10 t1 (t2 ++ (t3 ++ (t4 ++ (t5 ++ (t6 ++ (t7 ++ (t8 ++ (t9 ++ t10)))))))) p1 (nine p2 p3 p4 p5 p6 p7 p8 p9 p10 refl)) is
