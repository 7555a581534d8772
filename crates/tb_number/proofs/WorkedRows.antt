-- Rows worked out by hand: what the definitions come to.
use Rattle.std.proofs.Common.{◌≡◌, ℕ, List, [], ◌∷◌, pos, negsuc, refl, Less, Equal, Greater}
use Rattle.std.specs.Prelude.{codes, replicate, Some, None}
use Rattle.tb_number.specs.Reading.{integer_of}
use Rattle.tb_number.specs.Canonical.{canonical_text}
use Rattle.tb_number.specs.Range.{within_range, running_sum}
use Rattle.tb_number.specs.Values.{value_cmp}
use Rattle.tb_number.specs.Keys.{key_cmp}
use Rattle.tb_number.specs.KeyParts.{parts_of}

-- three texts of the number 7
pub integer-zeros : integer_of (codes "007") ≡ Some (pos 7)
unfolding integer_of
integer-zeros = refl

pub integer-plus : integer_of (codes "+7") ≡ Some (pos 7)
unfolding integer_of
integer-plus = refl

pub integer-blank : integer_of (codes "7 ") ≡ Some (pos 7)
unfolding integer_of
integer-blank = refl

-- all four blanks round a number below 0
pub integer-blanks : integer_of (codes "\t\r\n -7\n") ≡ Some (negsuc 6)
unfolding integer_of
integer-blanks = refl

-- no text: none, blanks alone, a sign alone, two signs, a blank inside, byte 11 behind
pub integer-empty : integer_of [] ≡ None
unfolding integer_of
integer-empty = refl

pub integer-blanks_alone : integer_of (codes " \n") ≡ None
unfolding integer_of
integer-blanks_alone = refl

pub integer-sign_alone : integer_of (codes "-") ≡ None
unfolding integer_of
integer-sign_alone = refl

pub integer-two_signs : integer_of (codes "+-7") ≡ None
unfolding integer_of
integer-two_signs = refl

pub integer-blank_inside : integer_of (codes "1 2") ≡ None
unfolding integer_of
integer-blank_inside = refl

pub integer-blank_behind_sign : integer_of (codes "- 2") ≡ None
unfolding integer_of
integer-blank_behind_sign = refl

pub integer-other_blank : integer_of (55 ∷ 11 ∷ []) ≡ None
unfolding integer_of
integer-other_blank = refl

-- zero in three texts, and its own
pub integer-minus_zero : integer_of (codes "-0") ≡ Some (pos 0)
unfolding integer_of
integer-minus_zero = refl

pub integer-plus_zero : integer_of (codes "+0") ≡ Some (pos 0)
unfolding integer_of
integer-plus_zero = refl

pub integer-three_zeros : integer_of (codes "000") ≡ Some (pos 0)
unfolding integer_of
integer-three_zeros = refl

pub canonical-zero : canonical_text (pos 0) ≡ codes "0"
unfolding canonical_text
canonical-zero = refl

pub canonical-below_zero : canonical_text (negsuc 1199) ≡ codes "-1200"
unfolding canonical_text
canonical-below_zero = refl

-- a 1 with 59 zeros
abbrev long : List ℕ
long = 49 ∷ replicate 59 48

pub compared-long : value_cmp long (codes "7") ≡ Greater
unfolding integer_of
compared-long = refl

pub compared-same_number : value_cmp (codes "007") (codes "+7") ≡ Equal
unfolding integer_of
compared-same_number = refl

-- `10` and `9` as numbers, and beside a value that is none
pub compared-numbers : value_cmp (codes "10") (codes "9") ≡ Greater
unfolding integer_of
compared-numbers = refl

pub compared-bytes : value_cmp (codes "10") (codes "9a") ≡ Less
unfolding integer_of
compared-bytes = refl

pub compared-prefix : value_cmp (codes "ab") (codes "abc") ≡ Less
unfolding integer_of
compared-prefix = refl

-- the ends of the range, and one past each
pub range-last : within_range (pos 170141183460469231731687303715884105727) ≡ Some (pos 170141183460469231731687303715884105727)
range-last = refl

pub range-past : within_range (pos 170141183460469231731687303715884105728) ≡ None
range-past = refl

pub range-first : integer_of (codes "-170141183460469231731687303715884105728") ≡ within_range (negsuc 170141183460469231731687303715884105727)
unfolding integer_of
range-first = refl

pub range-before : within_range (negsuc 170141183460469231731687303715884105728) ≡ None
range-before = refl

-- a total that leaves the range on the way is past, also where the whole sum would be within
pub sum-order : running_sum (pos 170141183460469231731687303715884105727 ∷ pos 1 ∷ negsuc 0 ∷ []) ≡ None
sum-order = refl

pub sum-within : running_sum (pos 170141183460469231731687303715884105727 ∷ negsuc 0 ∷ pos 1 ∷ []) ≡ Some (pos 170141183460469231731687303715884105727)
sum-within = refl

-- no value, numbers, other values
pub keys-none : key_cmp None (Some (codes "-5")) ≡ Less
unfolding integer_of
keys-none = refl

pub keys-number : key_cmp (Some (codes "10")) (Some []) ≡ Less
unfolding integer_of
keys-number = refl

pub keys-numbers : key_cmp (Some (codes "9")) (Some (codes "10")) ≡ Less
unfolding integer_of
keys-numbers = refl

pub keys-bytes : key_cmp (Some (codes "a")) (Some (codes "B")) ≡ Greater
unfolding integer_of
keys-bytes = refl

-- the parts of keys: no value, numbers on both sides of 0, zero, values that are no number
pub parts-none : parts_of None ≡ record { kind = 0; bytes = [] }
parts-none = refl

pub parts-number : parts_of (Some (codes "\t+0070 ")) ≡ record { kind = 1; bytes = codes "70" }
parts-number = refl

pub parts-below : parts_of (Some (codes "-07")) ≡ record { kind = 2; bytes = codes "7" }
parts-below = refl

pub parts-zero : parts_of (Some (codes "-00")) ≡ record { kind = 1; bytes = [] }
parts-zero = refl

pub parts-bytes : parts_of (Some (codes " 7a")) ≡ record { kind = 3; bytes = codes " 7a" }
parts-bytes = refl

pub parts-empty : parts_of (Some []) ≡ record { kind = 3; bytes = [] }
parts-empty = refl
