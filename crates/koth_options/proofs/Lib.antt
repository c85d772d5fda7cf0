mod Build
