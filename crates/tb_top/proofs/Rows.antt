-- Worked rows of the definitions, computed.
use Rattle.std.proofs.Common.{◌≡◌, true, false, [], ◌∷◌, ◌++◌, map, replicate, refl, codes}
use Rattle.tb_tree.specs.Printed.{escaped}
use Rattle.tb_script.specs.Forms.{is_label}

-- names of documents: 1 to 64 bytes
pub labels-of_documents : map is_label ([] ∷ codes "n-1.x_Y" ∷ codes "a/b" ∷ replicate 64 97 ∷ replicate 65 97 ∷ []) ≡ false ∷ true ∷ false ∷ true ∷ false ∷ []
labels-of_documents = refl

-- a value with a backslash, a line end, a tab, byte 127 and bytes of 128 and more
pub value-escaped : escaped (97 ∷ 92 ∷ 10 ∷ 9 ∷ 127 ∷ 195 ∷ 169 ∷ []) ≡ codes "a\\\\\\n\\011\\177" ++ 195 ∷ 169 ∷ []
value-escaped = refl
