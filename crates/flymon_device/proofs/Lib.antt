mod SwitchLemmas
