-- Bodies and their faults, and data with escapes, computed.
use Rattle.std.proofs.Common.{◌≡◌, [], ◌∷◌, ◌++◌, Some, None, codes, refl}
use Rattle.tb_tree.specs.Escapes.{unescaped}
use Rattle.tb_esis.specs.Faults.{fault_of}
use Rattle.tb_esis.specs.declared.fault.EsisFault.TheVariants.{BadEscape, BadName, BadAttribute, NoElement, WrongEnd, NotEnded, SecondRoot, TextOutside}

-- no element
no_line : fault_of [] ≡ Some (NoElement 1)
no_line = refl

conforms_alone : fault_of (codes "C") ≡ Some (NoElement 1)
conforms_alone = refl

never_ended : fault_of (codes "(a") ≡ Some (NotEnded 2)
never_ended = refl

-- escapes
backslash_alone : fault_of (codes "(a\n-\\\n)a") ≡ Some (BadEscape 2)
backslash_alone = refl

octal_past_a_byte : fault_of (codes "(a\n-\\400\n)a") ≡ Some (BadEscape 2)
octal_past_a_byte = refl

a_surrogate : fault_of (codes "(a\n-\\#55296;\n)a") ≡ Some (BadEscape 2)
a_surrogate = refl

past_unicode : fault_of (codes "(a\n-\\#1114112;\n)a") ≡ Some (BadEscape 2)
past_unicode = refl

-- names and order
blank_in_a_name : fault_of (codes "(a b") ≡ Some (BadName 1)
blank_in_a_name = refl

second_root : fault_of (codes "(a\n)a\n(b") ≡ Some (SecondRoot 3)
second_root = refl

text_before : fault_of (codes "-x\n(a\n)a") ≡ Some (TextOutside 1)
text_before = refl

other_end : fault_of (codes "(a\n)b") ≡ Some (WrongEnd 2)
other_end = refl

-- attributes
waits_at_an_end : fault_of (codes "(a\nAx CDATA 1\n)a") ≡ Some (BadAttribute 3)
waits_at_an_end = refl

waits_behind_all : fault_of (codes "(a\n)a\nAx CDATA 1") ≡ Some (BadAttribute 4)
waits_behind_all = refl

twice : fault_of (codes "Ax CDATA 1\nAx CDATA 2\n(a\n)a") ≡ Some (BadAttribute 2)
twice = refl

-- a document with lines that are passed over
clean : fault_of (codes "?xml\nL1 bib.sgm\n(BIB\r\nAID TOKEN B1\nANOTE IMPLIED\n(BOOK\n-TCP\n)BOOK\n)BIB\nC\n") ≡ None
clean = refl

-- `a\\b\nc\|d\|\012e\#233;\351`
escapes_read : unescaped (codes "a\\\\b\\nc\\|d\\|\\012e\\#233;\\351") ≡ Some (codes "a\\b\ncde" ++ 195 ∷ 169 ∷ 233 ∷ [])
unfolding lib.Utf8.encode
escapes_read = refl

leading_zeros : unescaped (codes "\\#00010;\\0012") ≡ Some (10 ∷ 1 ∷ 50 ∷ [])
unfolding lib.Utf8.encode
leading_zeros = refl
