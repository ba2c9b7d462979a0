-- Names for the levels of Annex B, from -31 to +31: a table's line then reads as it is printed.
use Rattle.std.specs.Prelude.{ℤ, pos, negsuc}

abbrev pub +0 : ℤ
+0 = pos 0

abbrev pub +1 : ℤ
+1 = pos 1

abbrev pub -1 : ℤ
-1 = negsuc 0

abbrev pub +2 : ℤ
+2 = pos 2

abbrev pub -2 : ℤ
-2 = negsuc 1

abbrev pub +3 : ℤ
+3 = pos 3

abbrev pub -3 : ℤ
-3 = negsuc 2

abbrev pub +5 : ℤ
+5 = pos 5

abbrev pub -5 : ℤ
-5 = negsuc 4

abbrev pub +7 : ℤ
+7 = pos 7

abbrev pub -7 : ℤ
-7 = negsuc 6

abbrev pub +9 : ℤ
+9 = pos 9

abbrev pub -9 : ℤ
-9 = negsuc 8

abbrev pub +11 : ℤ
+11 = pos 11

abbrev pub -11 : ℤ
-11 = negsuc 10

abbrev pub +13 : ℤ
+13 = pos 13

abbrev pub -13 : ℤ
-13 = negsuc 12

abbrev pub +15 : ℤ
+15 = pos 15

abbrev pub -15 : ℤ
-15 = negsuc 14

abbrev pub +17 : ℤ
+17 = pos 17

abbrev pub -17 : ℤ
-17 = negsuc 16

abbrev pub +19 : ℤ
+19 = pos 19

abbrev pub -19 : ℤ
-19 = negsuc 18

abbrev pub +21 : ℤ
+21 = pos 21

abbrev pub -21 : ℤ
-21 = negsuc 20

abbrev pub +23 : ℤ
+23 = pos 23

abbrev pub -23 : ℤ
-23 = negsuc 22

abbrev pub +25 : ℤ
+25 = pos 25

abbrev pub -25 : ℤ
-25 = negsuc 24

abbrev pub +27 : ℤ
+27 = pos 27

abbrev pub -27 : ℤ
-27 = negsuc 26

abbrev pub +29 : ℤ
+29 = pos 29

abbrev pub -29 : ℤ
-29 = negsuc 28

abbrev pub +31 : ℤ
+31 = pos 31

abbrev pub -31 : ℤ
-31 = negsuc 30
